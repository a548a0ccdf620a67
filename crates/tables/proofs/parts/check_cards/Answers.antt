use native.Mathlib.Omega.{arith}
use native.Mathlib.Nat.{mul-le-mul}
use mathlib.Core.Path.{ap, ◌∙◌}
use Prim.Native.Nat.{◌*◌}
use Rattle.std.proofs.lemmas.Result.{err_from_is_err_and}
use Rattle.answers.proofs.Answers.{refuses}
use Rattle.racks.proofs.Caps.{bytes-few}
use Rattle.racks.proofs.Jobs.{sound-slots, slots-few}
use Rattle.tables.specs.parts.Tables.{refusal_by}
use Rattle.tables.proofs.Tables.{cards-2, cards-4, cards-table, cards-refused}
use Rattle.tables.proofs.parts.check_cards.Goals as goal

pub returns-in_err-check_bytes : goal.returns-in_err-check_bytes
returns-in_err-check_bytes c =
    let s = c.args in
    let p = err_from_is_err_and c.from_residual.result c.from_residual.ensures.1 in
    let e = c.in_err-check_bytes.ensures in
    rw (p.1, p.2) (cards-refused s.job s.b s.places.now s.cards.now _ _ (e.1 ∙ cards-2 s.job s.b s.places.now s.cards.now e.0) (refuses _))

pub overflow_mul-job : goal.overflow_mul-job
overflow_mul-job c = omega (arith, mul-le-mul (slots-few c.args.job c.requires.0) (bytes-few c.args.b c.in_ok-check_bytes.ensures))

pub returns-then-cards-job : goal.returns-then-cards-job
returns-then-cards-job c =
    let s = c.args in
    cards-refused s.job s.b s.places.now s.cards.now _ _ (cards-4 s.job s.b s.places.now s.cards.now c.requires.0 c.in_ok-check_bytes.ensures c.if-cards-job.true)
    (λ z. omega arith)

pub returns : goal.returns
returns c =
    let s = c.args in
    let h = c.in_ok-check_bytes.ensures in
    record {
      refusal_is =
          c.check_racked.ensures.refusal_is
          ∙ ap (refusal_by s.job s.places.now) (cards-table s.job s.b s.places.now s.cards.now c.requires.0 h c.if-cards-job.false);
      opened = λ z.
          record {
            table = c.check_racked.ensures.opened z;
            bytes = bytes-few s.b h;
            long = c.if-cards-job.false ∙ ap (λ n. n * s.b) (sound-slots _ c.requires.0);
          };
    }
