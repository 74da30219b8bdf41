-- Scripts that parts of the code run. This project's own.
use Rattle.std.specs.Prelude.{ℕ, List, [], ◌∷◌}
use Rattle.bv_term.specs.declared.op.Op.TheVariants as op
use Rattle.bv_term.specs.Scripts.{Script, put, pure, ◌>>=◌}

-- one condition, which is 0: that of what is defined nowhere
abbrev pub zero_alone : Script (List ℕ)
zero_alone = do z ← put (op.Const 0); pure (z ∷ [])
