-- What the reader gives is told whole. Assumes nothing.
use mathlib.Core.Path.{◌≡◌, refl, ap}
use Rattle.counting.proofs.One.{OneToOne}
use Rattle.std.specs.Prelude.{Result, Ok, Err}
use Rattle.answers.specs.Answers.{refused}
use Rattle.answers.specs.declared.Refusal as given
use Rattle.answers.proofs.One.{heard, result-one}
use Rattle.parsing.specs.Answers.{FileAnswer, file_answered}
use Rattle.parsing.specs.declared.FileJob.{FileJob}

-- an answer has its refusal
file-heard : (r : Result FileJob given.Refusal) → heard (file_answered r).answer ≡ refused r
file-heard (Ok job) = refl
file-heard (Err e) = refl

-- two results that are told alike are one
pub file_answered-one : OneToOne file_answered
file_answered-one =
    result-one file_answered (λ (a : FileAnswer). heard a.answer) file-heard
    (λ x y e. ap (λ (a : FileAnswer). record { racks = a.racks; bytes = a.bytes; slots = a.slots; start = a.start }) e)
