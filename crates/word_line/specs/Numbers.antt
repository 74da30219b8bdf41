-- The numbers that are found.
use Rattle.std.specs.Prelude.{List, codes}
use Rattle.clap.specs.Walk.{Row, first_of}
use Rattle.word_line.specs.declared.found.Numbers.{Numbers}
use Rattle.word_line.specs.Words.{IsNumber}

pub record AreNumbers (found : List Row) (n : Numbers) : Type 0 where
  pub turns : IsNumber 1 16384 4096 (first_of (codes "turns") found) n.turns
  pub conflicts : IsNumber 1 100000 10000 (first_of (codes "conflicts") found) n.conflicts
  pub case_number : IsNumber 0 65535 0 (first_of (codes "case") found) n.«case»
  pub size : IsNumber 1 64 4 (first_of (codes "size") found) n.size
