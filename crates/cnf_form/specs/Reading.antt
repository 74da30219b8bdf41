-- The clauses of a formula while its words are read one by one.
use Rattle.std.specs.Prelude.{
  ◌≡◌,
  ◌==◌,
  ◌≤◌,
  ◌<◌,
  ◌*◌,
  ◌^◌,
  ℕ,
  ℤ,
  pos,
  nat_eq,
  true,
  false,
  List,
  [],
  ◌∷◌,
  ◌++◌,
  ◌⊎◌,
  length,
  map,
  unsigned_abs,
  All,
}
use Rattle.std.specs.List.{list_any}
use Rattle.std.specs.Fmt.{signed_decimal}
use Rattle.std.specs.HashSet.{contains}
use Rattle.cnf_form.specs.declared.front.Front.{Front}
use Rattle.cnf_form.specs.declared.course.Course.{Course}
use Rattle.cnf_form.specs.declared.course.Course.TheVariants.{Fits, MayGrow, Breaks}
use Rattle.text_lines.specs.Cutting.{HasNoFeed, EndsInFeed}
use Rattle.cnf_form.specs.Literals.{most, IsLiteral, IsClause, AreClauses, NamesUpTo}
use Rattle.cnf_form.specs.Forms.{words, begins_with, numbers_of, IsFormula}

-- no literal is of this variable
abbrev pub IsUnnamed : List ℤ → ℕ → Type 0
IsUnnamed literals variable = list_any (λ l. unsigned_abs l == variable) literals ≡ false

-- a literal of a variable that the clause does not name yet
pub record IsNew (variables : ℕ) (literals : List ℤ) (number : ℤ) : Type 0 where
  pub literal : IsLiteral number
  pub up_to : unsigned_abs number ≤ variables
  pub unnamed : IsUnnamed literals (unsigned_abs number)

-- the clauses that have ended, and the literals of one that has not
pub record IsFront (variables count : ℕ) (clauses : List (List ℤ)) (literals : List ℤ) : Type 0 where
  pub few_variables : variables ≤ most
  pub few_clauses : count ≤ most
  pub within : length clauses ≤ count
  pub each : AreClauses clauses
  pub named : All (NamesUpTo variables) clauses
  pub clause : IsClause literals
  pub up_to : NamesUpTo variables literals
  pub ended : count ≤ length clauses → literals ≡ []

-- their words
unfoldable pub front_words : List (List ℤ) → List ℤ → List (List ℕ)
front_words clauses literals = map signed_decimal (numbers_of clauses ++ literals)

-- a word with which they go on: the 0 that ends the clause, or a new literal
pub record GoesOnBy (variables count : ℕ) (clauses : List (List ℤ)) (literals : List ℤ) (word : List ℕ) (number : ℤ) :
    Type 0 where
  pub room : length clauses < count
  pub written : word ≡ signed_decimal number
  pub fits : (number ≡ pos 0) ⊎ IsNew variables literals number

-- further bytes, or none, make a word of this one with which they go on
pub record Grows (variables count : ℕ) (clauses : List (List ℤ)) (literals : List ℤ) (word : List ℕ) : Type 0 where
  pub more : List ℕ
  pub number : ℤ
  pub goes_on : GoesOnBy variables count clauses literals (word ++ more) number

-- the words are those of the clauses of a formula
pub record AreOfFormula (variables count : ℕ) (text_words : List (List ℕ)) : Type 0 where
  pub clauses : List (List ℤ)
  pub formula : IsFormula variables clauses
  pub number : length clauses ≡ count
  pub same : text_words ≡ map signed_decimal (numbers_of clauses)

-- a number from `low` on and below `past` goes on, by further digits or none, to a variable that is not named
pub record LeadsToNew (variables : ℕ) (literals : List ℤ) (low past : ℕ) : Type 0 where
  pub digits : ℕ
  pub variable : ℕ
  pub from : low * 10 ^ digits ≤ variable
  pub below : variable < past * 10 ^ digits
  pub up_to : variable ≤ variables
  pub unnamed : IsUnnamed literals variable

-- one of these variables is not named
pub record LeadsAtOnce (variables : ℕ) (literals : List ℤ) (low past : ℕ) : Type 0 where
  pub variable : ℕ
  pub from : low ≤ variable
  pub below : variable < past
  pub up_to : variable ≤ variables
  pub unnamed : IsUnnamed literals variable

-- what the reader keeps
pub record Keeps (front : Front) : Type 0 where
  pub is_front : IsFront front.variables front.count front.clauses.items front.literals.items
  pub names : (v : ℕ) → contains nat_eq front.named v ≡ list_any (λ l. unsigned_abs l == v) front.literals.items

-- some clauses have these words
pub record Reaches (variables count : ℕ) (seen : List (List ℕ)) : Type 0 where
  pub clauses : List (List ℤ)
  pub literals : List ℤ
  pub is_front : IsFront variables count clauses literals
  pub same : seen ≡ front_words clauses literals

-- the words of the line, and of whatever follows it, make no formula of those seen
pub record BreaksOff (variables count : ℕ) (seen : List (List ℕ)) (line : List ℕ) : Type 0 where
  pub never : (more : List ℕ) → ¬ AreOfFormula variables count (seen ++ words (line ++ more))

-- the line has no line feed, its words make no formula of those seen, and further bytes make it a line that does go on
pub record StopsShort (variables count : ℕ) (seen : List (List ℕ)) (line : List ℕ) : Type 0 where
  pub unfinished : ¬ EndsInFeed line
  pub none : ¬ AreOfFormula variables count (seen ++ words line)
  pub more : List ℕ
  pub no_feed : HasNoFeed more
  pub reaches : Reaches variables count (seen ++ words (line ++ (more ++ 10 ∷ [])))

-- the clauses went on with the words of the line
pub record WentOn (old new : Front) (line : List ℕ) : Type 0 where
  pub keeps : Keeps new
  pub variables : new.variables ≡ old.variables
  pub count : new.count ≡ old.count
  pub same : front_words new.clauses.items new.literals.items ≡ front_words old.clauses.items old.literals.items
      ++ words line

-- how a line goes with the clauses before it
abbrev pub TakesLine : Front → Front → List ℕ → Course → Type 0
TakesLine old new line Fits = WentOn old new line
TakesLine old new line MayGrow = StopsShort old.variables old.count (front_words old.clauses.items old.literals.items)
    line
TakesLine old new line Breaks = BreaksOff old.variables old.count (front_words old.clauses.items old.literals.items)
    line

-- the same of a line that may be a comment, which changes nothing
pub record SkipsComment (old new : Front) (line : List ℕ) (course : Course) : Type 0 where
  pub comment : begins_with 99 line ≡ true
  pub course_is : course ≡ Fits
  pub same : new ≡ old

pub record TakesPlain (old new : Front) (line : List ℕ) (course : Course) : Type 0 where
  pub plain : begins_with 99 line ≡ false
  pub takes : TakesLine old new line course

abbrev pub TakesTold : Front → Front → List ℕ → Course → Type 0
TakesTold old new line course = SkipsComment old new line course ⊎ TakesPlain old new line course

-- what a word, and what stands behind it on its line, does where they do not go on with it
pub record GrowsAtEnd (front : Front) (word after : List ℕ) : Type 0 where
  pub last : length after ≡ 0
  pub grows : Grows front.variables front.count front.clauses.items front.literals.items word

abbrev pub EndsAt : Front → List ℕ → List ℕ → Course → Type 0
EndsAt front word after Fits = ⊥
EndsAt front word after MayGrow = GrowsAtEnd front word after
EndsAt front word after Breaks = ¬ GrowsAtEnd front word after
