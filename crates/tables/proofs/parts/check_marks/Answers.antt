use native.Mathlib.Omega.{arith}
use mathlib.Core.Path.{◌∙◌}
use Rattle.tables.proofs.Tables.{by_4, by_entries, by-clear, judged}
use Rattle.tables.proofs.parts.check_marks.Goals as goal

pub returns-then-places-job : goal.returns-then-places-job
returns-then-places-job c =
    record { judged = judged _ _ _ (by_4 c.args.job c.args.places.now c.requires.0 c.if-places-job.true); long = c.requires.1 }

pub entries_clear-requires : goal.entries_clear-requires
entries_clear-requires c = (c.requires.0, c.if-places-job.false, c.requires.1)

pub returns-then-entries_clear : goal.returns-then-entries_clear
returns-then-entries_clear c =
    record {
      judged = judged _ _ _ (by-clear c.args.job c.args.places.now c.requires.0 c.if-places-job.false (c.entries_clear.ensures.clear c.if-entries_clear.true));
      long = c.entries_clear.ensures.long;
    }

pub check_entries-requires : goal.check_entries-requires
check_entries-requires c = (c.requires.0, c.if-places-job.false, omega (arith, c.entries_clear.ensures.long))

pub returns : goal.returns
returns c =
    record {
      judged = judged _ _ _ (c.check_entries.ensures ∙ by_entries c.args.job c.args.places.now c.requires.0 c.if-places-job.false);
      long = c.check_entries.auto.marks ∙ c.entries_clear.ensures.long;
    }
