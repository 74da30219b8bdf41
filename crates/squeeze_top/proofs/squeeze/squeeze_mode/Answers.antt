-- What was written of the race of the job's texts is what may be written for the job.
use Rattle.std.proofs.Common.{subst}
use Rattle.race_item.specs.declared.region.Limits.{Limits}
use Rattle.front_end.specs.Files.{Source, source_of}
use Rattle.squeeze_race.specs.Texts.{WroteRace}
use Rattle.squeeze_top.specs.Answers.{limits_of}
use Rattle.squeeze_top.proofs.Squeezing.{wrote_race}
use Rattle.squeeze_top.proofs.squeeze.squeeze_mode.Goals as goal

pub returns-clause-wrote : goal.returns-clause-wrote
returns-clause-wrote g c =
    let job = c.args.job.now in
    let told = g.S.Shelf.contents c.args.shelf.now in
    let old = g.K.Sink.written c.args.out.now in
    let new = g.K.Sink.written c.squeeze_texts.new.out in
    let status = c.squeeze_texts.result in
    wrote_race status job told c.in-Some.file old new c.requires.squeezes c.in-Some.is
    (subst (λ (s : Source). WroteRace status s told (limits_of job) old new) c.source_of.ensures
    (subst (λ (limits : Limits). WroteRace status (source_of c.source_of.result) told limits old new) c.limits_of.ensures.limits
    c.squeeze_texts.ensures.wrote))
