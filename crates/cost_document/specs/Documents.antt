-- The document that a table's bytes spell, and what its keys hold. What TOML is, `toml` says. The three keys are this
-- project's own.
use Rattle.std.specs.Prelude.{
  ◌≡◌,
  ◌<◌,
  ◌==◌,
  ◌||◌,
  ◌++◌,
  codes,
  decimal,
  get_or,
  ℕ,
  pos,
  List,
  length,
  Bool,
  false,
  not,
  if◌then◌else◌,
  Option,
  Some,
  None,
  is_none,
  is_some,
  option_and_then,
  unwrap_or,
}
use Rattle.std.specs.Bool.{nat_le}
use Rattle.std.specs.Option.{option_or}
use Rattle.std.specs.Ordering.{nat_cmp, is_gt}
use Rattle.std.specs.Cmp.Lexicographic.{slice_cmp}
use Rattle.std.specs.Str.{is_utf8, bytes_eq}
use Rattle.toml.specs.Data.{Data, integer, Members, no_members, member, get_member, as_table}
use Rattle.toml.specs.Parse.{parse_document}

-- the keys and values that the bytes spell, where they are TOML, which is UTF-8
abbrev pub document : List ℕ → Option Members
document bytes = if is_utf8 bytes then parse_document bytes else None

-- ---- the three keys

abbrev pub version : Members → Option Data
version = get_member (codes "version")

abbrev pub default : Members → Option Data
default = get_member (codes "default")

-- the keys and values of the table `cost`; none where it is absent
abbrev pub entries : Members → Members
entries ms = unwrap_or (option_and_then as_table (get_member (codes "cost") ms)) no_members

-- a key that is none of the three, or `cost` where it is no table
abbrev pub is_stray : List ℕ → Data → Bool
is_stray key d =
    if bytes_eq key (codes "cost") then is_none (as_table d)
    else not (bytes_eq key (codes "version") || bytes_eq key (codes "default"))

-- ---- numbers

-- the whole number 1
abbrev pub is_one : Data → Bool
is_one (integer (pos n)) = n == 1
is_one _ = false

-- a whole number from 0 to 4,294,967,295
abbrev pub cost_in : Data → Option ℕ
cost_in (integer (pos n)) = if nat_le n 4294967295 then Some n else None
cost_in _ = None

-- ---- the cost of a name

-- its entry, or else `default`, where that is a whole number in range
abbrev pub written_cost : Members → List ℕ → Option ℕ
written_cost ms name = option_and_then cost_in (option_or (get_member name (entries ms)) (default ms))

-- ---- names with numbers

-- of a number in a function: `function:number`
abbrev pub numbered_name : List ℕ → ℕ → List ℕ
numbered_name function number = function ++ codes ":" ++ decimal number

-- for each number below `count`, whether its name is a key
pub record TellsNumbers (ms : Members) (function : List ℕ) (count : ℕ) (held : List Bool) : Type 0 where
  pub long : length held ≡ count
  pub each : (number : ℕ) → number < count → get_or held number false ≡ is_some (get_member (numbered_name function number) ms)

-- ---- the first in byte order

-- of a key and what other key there is
abbrev pub earlier : List ℕ → Option (List ℕ) → List ℕ
earlier key None = key
earlier key (Some other) = if is_gt (slice_cmp nat_cmp key other) then other else key

-- of the keys at which the test is true, with their values
abbrev pub first_key : (List ℕ → Data → Bool) → Members → Option (List ℕ)
first_key test no_members = None
first_key test (member key d ms) = if test key d then Some (earlier key (first_key test ms)) else first_key test ms
