-- A parse of the words fails exactly where the definition of faults says so.
use Rattle.std.proofs.Common.{◌≡◌, ◌≢◌, [], ◌∷◌, true, refl, inl, inr}
use Rattle.clap.specs.Simple.{is_simple}
use Rattle.clap.specs.Faults.{is_simple_and_free}
use Rattle.clap.specs.Kinds.{Kinds, HasKind}
use Rattle.clap.specs.Values.{kind_of}
use Rattle.clap.specs.declared.error.Error.{Error}
use Rattle.clap.specs.declared.error.kind.ErrorKind.TheVariants.{OutOfMemory}
use Rattle.clap.proofs.OnLiterals.{clap_on_literals}
use Rattle.word_line.specs.Command.{command}

-- our command is one of which `clap` says all
pub command_is_simple : is_simple command ≡ true
unfolding command clap_on_literals
command_is_simple = refl

pub command_is_free : is_simple_and_free command ≡ true
unfolding command clap_on_literals
command_is_free = refl

-- an error that is no want of memory has a kind
pub some_kind : (kinds : Kinds) (error : Error) → HasKind kinds error → kind_of error ≢ OutOfMemory → kinds ≡ [] → ⊥
some_kind kinds error (inl memory) other none = other memory
some_kind [] error (inr among) other none = among
some_kind (kind ∷ kinds) error (inr among) other none = absurd (cc)
