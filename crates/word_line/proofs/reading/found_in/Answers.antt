-- What a parse finds, or why it fails, is what the definitions say of our command.
use Rattle.std.proofs.Common.{subst, ap, map, ◌∙◌, ◌≡◌, []}
use Rattle.clap.specs.Simple.{App, app_of, matches_of, is_simple}
use Rattle.clap.specs.Faults.{fault_of, is_simple_and_free}
use Rattle.word_line.specs.declared.reading.WordFault.TheVariants.{Refused}
use Rattle.word_line.proofs.Parsing.{command_is_simple, command_is_free, some_kind}
use Rattle.word_line.proofs.reading.found_in.Goals as goal

pub returns-in-Ok-clause-parsed : goal.returns-in-Ok-clause-parsed
returns-in-Ok-clause-parsed c =
    subst (λ (app : App). fault_of app (map (λ w. w.now) c.args.words.now) ≡ []) c.in_ok-command.ensures
    (c.in-Ok.ensures.kinds (ap is_simple_and_free c.in_ok-command.ensures ∙ command_is_free))

pub returns-in-Ok-clause-found : goal.returns-in-Ok-clause-found
returns-in-Ok-clause-found c =
    (c.in-Ok.ensures.matches (ap is_simple c.in_ok-command.ensures ∙ command_is_simple)).0
    ∙ ap (λ (app : App). matches_of app (map (λ w. w.now) c.args.words.now)) c.in_ok-command.ensures

pub returns-in-Err-clause-refused : goal.returns-in-Err-clause-refused
returns-in-Err-clause-refused c = λ refused none.
    some_kind (fault_of (app_of c.in_ok-command.command) (map (λ w. w.now) c.args.words.now)) c.in-Err.error
    (c.in-Err.ensures.kinds (ap is_simple_and_free c.in_ok-command.ensures ∙ command_is_free))
    (λ memory. let is_refused : c.fault_of.result ≡ Refused = cc in c.fault_of.ensures.refused is_refused (c.kind.ensures ∙ memory))
    (ap (λ (app : App). fault_of app (map (λ w. w.now) c.args.words.now)) c.in_ok-command.ensures ∙ none)
