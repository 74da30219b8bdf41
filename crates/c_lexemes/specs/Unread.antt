-- Where bytes begin no token, a comment has no end, and a number is no constant.
use Rattle.std.specs.Prelude.{◌≡◌, ℕ, ◌≤◌, true, false, List, length, take, drop, None}
use Rattle.c_tree.specs.Tokens.TokenKinds.{could_be_token, is_number_run, kind_of}
use Rattle.c_tree.specs.Tokens.Lexing.{IsLongest, opens_block_comment, closes_at}

-- no front of the bytes could constitute a token
abbrev pub HasNoToken : List ℕ → Type 0
HasNoToken here = (n : ℕ) → n ≤ length here → could_be_token (take n here) ≡ false

-- `/*` with no `*/` behind it
pub record IsOpenComment (here : List ℕ) : Type 0 where
  pub opens : opens_block_comment here ≡ true
  pub open_ : (k : ℕ) → closes_at (drop 2 here) k ≡ false

-- a number run that is no constant of the profile
pub record IsBadNumber (here : List ℕ) : Type 0 where
  pub n : ℕ
  pub longest : IsLongest here n
  pub number : is_number_run (take n here) ≡ true
  pub none : kind_of (take n here) ≡ None
