-- How often each edge of a part is taken, where it is gone through by its dearest ways so often as is asked for each of
-- the four. Loops are multiplied out: no walk is followed. This project's own.
use Rattle.std.specs.Prelude.{
  ◌≡◌,
  ℕ,
  ◌+◌,
  ◌*◌,
  nat_le,
  Bool,
  true,
  false,
  if◌then◌else◌,
  List,
  [],
  ◌∷◌,
  ◌++◌,
  Option,
  Some,
  None,
}
use Rattle.flow_laws.specs.Sites.{Targets}
use Rattle.peak_laws.specs.Parts.{
  Part,
  Nothing,
  Block,
  Then,
  Choice,
  While,
  Do,
  Body,
  greater,
  more,
  sum_of_both,
  Ways,
  dearest_ways,
  way_back,
  full_turn_cost,
  ahead,
  step_costs,
}

-- ---- choosing

-- the first is there, and no less than the second
abbrev pub is_dearer : Option ℕ → Option ℕ → Bool
is_dearer None p = false
is_dearer (Some d) None = true
is_dearer (Some d) (Some e) = nat_le e d

-- what goes the first of two ways, and what goes the second
abbrev pub by_first : Option ℕ → Option ℕ → ℕ → ℕ
by_first o p x = if is_dearer o p then x else 0

abbrev pub by_second : Option ℕ → Option ℕ → ℕ → ℕ
by_second o p x = if is_dearer o p then 0 else x

-- how much goes by all four ways
abbrev pub whole : Targets → ℕ
whole a = a.next + (a.breaks + (a.continues + a.returns))

-- ---- two parts, one after the other: what leaves the second, and what leaves the first

abbrev pub then_second : Ways → Ways → Targets → Targets
then_second v w a = record {
  next = a.next;
  breaks = by_second v.breaks (sum_of_both v.next w.breaks) a.breaks;
  continues = by_second v.continues (sum_of_both v.next w.continues) a.continues;
  returns = by_second v.returns (sum_of_both v.next w.returns) a.returns;
}

abbrev pub then_first : Ways → Ways → Targets → Targets
then_first v w a = record {
  next = whole (then_second v w a);
  breaks = by_first v.breaks (sum_of_both v.next w.breaks) a.breaks;
  continues = by_first v.continues (sum_of_both v.next w.continues) a.continues;
  returns = by_first v.returns (sum_of_both v.next w.returns) a.returns;
}

-- ---- a choice

abbrev pub choice_first : Ways → Ways → Targets → Targets
choice_first v w a = record {
  next = by_first v.next w.next a.next;
  breaks = by_first v.breaks w.breaks a.breaks;
  continues = by_first v.continues w.continues a.continues;
  returns = by_first v.returns w.returns a.returns;
}

abbrev pub choice_second : Ways → Ways → Targets → Targets
choice_second v w a = record {
  next = by_second v.next w.next a.next;
  breaks = by_second v.breaks w.breaks a.breaks;
  continues = by_second v.continues w.continues a.continues;
  returns = by_second v.returns w.returns a.returns;
}

-- ---- loops

-- x where there is a way
abbrev pub amount_by_way : Option ℕ → ℕ → ℕ
amount_by_way None x = 0
amount_by_way (Some d) x = x

-- how often a loop is left by its condition, and how often by `break`
abbrev pub while_stays : ℕ → ℕ → ℕ → Ways → ℕ → ℕ
while_stays c m y w x = by_first (Some ((m + 1) * y + c)) (more (m * y + c) w.breaks) x

abbrev pub while_breaks : ℕ → ℕ → ℕ → Ways → ℕ → ℕ
while_breaks c m y w x = by_second (Some ((m + 1) * y + c)) (more (m * y + c) w.breaks) x

abbrev pub do_stays : ℕ → ℕ → ℕ → Ways → ℕ → ℕ
do_stays c m y w x = by_first (more (m * y + c) (way_back w)) (more (m * y) w.breaks) x

abbrev pub do_breaks : ℕ → ℕ → ℕ → Ways → ℕ → ℕ
do_breaks c m y w x = by_second (more (m * y + c) (way_back w)) (more (m * y) w.breaks) x

-- a body that leads back so often, and is left for good so often
abbrev pub loop_body_amounts : Ways → ℕ → ℕ → ℕ → Targets
loop_body_amounts w full out r = record {
  next = by_first w.next w.continues full;
  breaks = out;
  continues = by_second w.next w.continues full;
  returns = r;
}

-- full turns: all of them where the condition ends the loop, else all but one
abbrev pub while_full : ℕ → Ways → ℕ → ℕ → ℕ
while_full m w stays out = amount_by_way (way_back w) ((m + 1) * stays + m * out)

abbrev pub do_full : ℕ → Ways → ℕ → ℕ
do_full m w x = amount_by_way (way_back w) (m * x)

-- ---- a callee's body

-- how a callee's body is left that is left x times
abbrev pub body_amounts : Ways → ℕ → Targets
body_amounts w x =
    let near = by_first (greater w.next w.breaks) (greater w.continues w.returns) x in
    let far = by_second (greater w.next w.breaks) (greater w.continues w.returns) x in
    record {
      next = by_first w.next w.breaks near;
      breaks = by_second w.next w.breaks near;
      continues = by_first
          w.continues w.returns far;
      returns = by_second w.continues w.returns far;
    }

abbrev pub step_flows : Option ℕ → ℕ → List ℕ
step_flows None x = []
step_flows (Some s) x = x ∷ []

-- the count of each edge, by their sources
abbrev pub flows : Part → Targets → List ℕ
flows Nothing a = []
flows (Block c l) a = ahead a l ∷ []
flows (Then p q) a = flows p (then_first (dearest_ways p) (dearest_ways q) a)
    ++ flows q (then_second (dearest_ways p) (dearest_ways q) a)
flows (Choice c p q) a =
    let first = choice_first (dearest_ways p) (dearest_ways q) a in
    let second = choice_second (dearest_ways p) (dearest_ways q) a in
    whole first ∷ (whole second ∷ (flows p first ++ flows q second))
flows (While c m s p) a =
    let y = full_turn_cost c s (dearest_ways p) in
    let stays = while_stays c m y (dearest_ways p) a.next in
    let breaks = while_breaks c m y (dearest_ways p) a.next in
    let full = while_full m (dearest_ways p) stays (breaks + a.returns) in
    (full + (breaks + a.returns))
    ∷ (stays ∷ (step_flows s full ++ flows p (loop_body_amounts (dearest_ways p) full breaks a.returns)))
flows (Do c m p) a =
    let y = full_turn_cost c None (dearest_ways p) in
    let stays = do_stays c m y (dearest_ways p) a.next in
    let breaks = do_breaks c m y (dearest_ways p) a.next in
    let full = do_full m (dearest_ways p) (stays + (breaks + a.returns)) in
    flows p (loop_body_amounts (dearest_ways p) (full + stays) breaks a.returns) ++ (full ∷ (stays ∷ []))
flows (Body p) a = flows p (body_amounts (dearest_ways p) a.next)

-- the cost of each edge's source
abbrev pub edge_costs : Part → List ℕ
edge_costs Nothing = []
edge_costs (Block c l) = c ∷ []
edge_costs (Then p q) = edge_costs p ++ edge_costs q
edge_costs (Choice c p q) = c ∷ (c ∷ (edge_costs p ++ edge_costs q))
edge_costs (While c m s p) = c ∷ (c ∷ (step_costs s ++ edge_costs p))
edge_costs (Do c m p) = edge_costs p ++ (c ∷ (c ∷ []))
edge_costs (Body p) = edge_costs p

-- only where there is a way is something asked for
abbrev pub Leads : Option ℕ → ℕ → Type 0
Leads None x = x ≡ 0
Leads (Some d) x = Unit {0}

-- nothing is asked for by a way that is not there
pub record Feasible (w : Ways) (a : Targets) : Type 0 where
  pub next : Leads w.next a.next
  pub breaks : Leads w.breaks a.breaks
  pub continues : Leads w.continues a.continues
  pub returns : Leads w.returns a.returns

-- what x times a way costs
abbrev pub cost_times : Option ℕ → ℕ → ℕ
cost_times None x = 0
cost_times (Some d) x = d * x

-- what all that is asked for costs
abbrev pub value : Ways → Targets → ℕ
value w a = cost_times w.next a.next + (cost_times w.breaks a.breaks + (cost_times w.continues a.continues
    + cost_times w.returns a.returns))
