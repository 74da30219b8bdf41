use Rattle.std.proofs.Common.{rules, ◌++◌, ◌∙◌, subst}
use Rattle.wc_outside.specs.Growth.{GrewByPrefix}
use Rattle.front_end.proofs.Growing.{grew_in_part, cut, on_err}
use Rattle.front_end.proofs.writing.put_lines.Goals as goal
use Rattle.std.proofs.lemmas.List.{append_assoc}
use Rattle.wc_outside.proofs.Writing.{Grew-append}

pub returns-in_err-put_all-clause-part : goal.returns-in_err-put_all-clause-part
returns-in_err-put_all-clause-part g c =
    let whole = cut c.line_length.result c.loop-rest.invariant.done c.loop-rest.rest.now c.line_length.ensures.within c.split_at.result.0.now c.split_at.result.1.now c.split_at.ensures.front c.split_at.ensures.back ∙ c.loop-rest.invariant.whole in
    let part = grew_in_part _ _ _ c.loop-rest.invariant.done c.split_at.result.0.now c.split_at.result.1.now c.loop-rest.invariant.grew c.in_err-put_all.ensures.part in
    on_err c.from_residual.result _ (subst (GrewByPrefix (g.K.Sink.written c.args.out.now) (g.K.Sink.written c.put_all.new.out)) whole part)

pub loop-rest-preserved : goal.loop-rest-preserved
loop-rest-preserved g c =
    let whole = cut c.line_length.result c.loop-rest.invariant.done c.loop-rest.rest.now c.line_length.ensures.within c.split_at.result.0.now c.split_at.result.1.now c.split_at.ensures.front c.split_at.ensures.back ∙ c.loop-rest.invariant.whole in
    record {
      done = c.loop-rest.invariant.done ++ c.split_at.result.0.now;
      whole = append_assoc c.loop-rest.invariant.done c.split_at.result.0.now c.split_at.result.1.now ∙ whole;
      grew = Grew-append _ _ _ c.loop-rest.invariant.done c.split_at.result.0.now c.loop-rest.invariant.grew c.in_ok-put_all.ensures.whole;
      kept = search rules;
    }
