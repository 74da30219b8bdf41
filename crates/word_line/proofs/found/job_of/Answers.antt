-- A job that is found has its numbers.
use Rattle.word_line.proofs.found.job_of.Goals as goal

pub returns-in_default-numbers_in-clause-refused : goal.returns-in_default-numbers_in-clause-refused
returns-in_default-numbers_in-clause-refused c =
    λ refused job found. c.in_default-numbers_in.ensures.none
    (record { turns = job.turns; conflicts = job.conflicts; «case» = job.«case»; size = job.size })
    (record { turns = found.turns; conflicts = found.conflicts; case_number = found.case_number; size = found.size })
