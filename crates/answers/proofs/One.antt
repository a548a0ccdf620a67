-- The contracts of this layer allow one outcome each. Assumes nothing.
use mathlib.Core.Path.{◌≡◌, refl, ap, sym, ◌∙◌}
use mathlib.Core.List.{List}
use Prim.Native.Nat.{ℕ}
use lib.Dec.{eqb}
use Rattle.counting.specs.Tests.{pick}
use Rattle.counting.specs.One.{One}
use Rattle.answers.proofs.Answers.{refuses}
use Rattle.counting.proofs.One.{OneToOne, one-is, one_by, read-back}
use Rattle.answers.specs.Answers.{Listed, listed_of, Sized, sized_of, SizeAnswer, Refusal, refusal_of, refused, answer, no_counts, answered, size_answered, TallyNone, TallyOfMoves, TallyOfCopies, NumberOf, PlaceOf, AnswerNumbered, AnswerRefused, AnswerDone, AnswerGiven}
use Rattle.answers.specs.declared.Tally.{Tally}
use Rattle.answers.specs.declared.Refusal as given
use Rattle.answers.specs.declared.Refusal.TheVariants as case
use Rattle.answers.specs.declared.Answer.{Answer}
use Rattle.std.specs.Prelude.{Result, Ok, Err}

-- an answer with a lent list
pub listed-one : {allowed : Listed → Type 0} → One allowed → One (λ ((r, lent) : Answer × List ℕ). allowed (listed_of r lent))
listed-one = one_by (λ (x : Answer × List ℕ). listed_of x.0 x.1) (λ (o : Listed). (o.answer, o.lent)) (λ x. refl)

-- an answer with a size and a lent buffer
pub sized-one : {allowed : Sized → Type 0} → One allowed → One (λ ((r, lent) : SizeAnswer × List ℕ). allowed (sized_of r lent))
sized-one =
    one_by (λ (x : SizeAnswer × List ℕ). sized_of x.0 x.1) (λ (o : Sized). (record { answer = o.answer; size = o.size }, o.lent)) (λ x. refl)

pub tally-none-one : One TallyNone
tally-none-one = one-is _

pub tally_of-moves-one : (moves : ℕ) → One (TallyOfMoves moves)
tally_of-moves-one moves = one-is _

pub tally_of-copies-one : (copies : ℕ) → One (TallyOfCopies copies)
tally_of-copies-one copies = one-is _

pub number_of-one : (refusal : given.Refusal) → One (NumberOf refusal)
number_of-one refusal = one-is _

pub place_of-one : (refusal : given.Refusal) → One (PlaceOf refusal)
place_of-one refusal = one-is _

pub answer-numbered-one : (number place : ℕ) → One (AnswerNumbered number place)
answer-numbered-one number place = one-is _

pub answer-refused-one : (refusal : given.Refusal) → One (AnswerRefused refusal)
answer-refused-one refusal = one-is _

pub answer-done-one : (tally : Tally) → One (AnswerDone tally)
answer-done-one tally = one-is _

pub answer-given-one : (r : Result Tally given.Refusal) → One (AnswerGiven r)
answer-given-one r = one-is _

-- the refusal that a number and its place tell
case_of : Refusal → given.Refusal
case_of x =
    pick (eqb x.number 1) case.BadCount
    (pick (eqb x.number 2) case.BadBytes
    (pick (eqb x.number 3) case.BadSize
    (pick (eqb x.number 4) case.BadLength
    (pick (eqb x.number 5) (case.BadEntry x.place)
    (pick (eqb x.number 6) (case.NamedTwice x.place)
    (pick (eqb x.number 7) case.NoSlot
    (pick (eqb x.number 8) case.SourceFree
    (pick (eqb x.number 9) case.SourceHome
    (pick (eqb x.number 10) case.Elsewhere
    (pick (eqb x.number 11) case.TargetTaken
    (pick (eqb x.number 12) case.SomeAway
    (pick (eqb x.number 13) case.TooShort
    (pick (eqb x.number 14) case.FileForm
    (pick (eqb x.number 15) case.FileEnds
    (pick (eqb x.number 16) case.FileLeftOver
    (pick (eqb x.number 17) case.FileRoom
    (pick (eqb x.number 18) case.FileLarge
    (pick (eqb x.number 19) case.BufferShort case.FileGroups))))))))))))))))))

told : (e : given.Refusal) → case_of (refusal_of e) ≡ e
unfolding case_of
told case.BadCount = refl
told case.BadBytes = refl
told case.BadSize = refl
told case.BadLength = refl
told (case.BadEntry entry) = refl
told (case.NamedTwice entry) = refl
told case.NoSlot = refl
told case.SourceFree = refl
told case.SourceHome = refl
told case.Elsewhere = refl
told case.TargetTaken = refl
told case.SomeAway = refl
told case.TooShort = refl
told case.FileForm = refl
told case.FileEnds = refl
told case.FileLeftOver = refl
told case.FileRoom = refl
told case.FileLarge = refl
told case.BufferShort = refl
told case.FileGroups = refl

-- two refusals of one number and place are one
pub refusal-one : (e f : given.Refusal) → refusal_of e ≡ refusal_of f → e ≡ f
refusal-one = read-back refusal_of case_of told

-- the number and place that an answer has
abbrev pub heard : Answer → Refusal
heard a = record { number = a.number; place = a.place }

-- what has the refusal of each result, and all of what is done, tells all of a result
module _ {A B : Type 0} (tell : Result A given.Refusal → B) (hear : B → Refusal) (is : (r : Result A given.Refusal) → hear (tell r) ≡ refused r) where
  alike : (r s : Result A given.Refusal) → tell r ≡ tell s → refused r ≡ refused s
  alike r s e = sym (is r) ∙ ap hear e ∙ is s

  pub result-one : ((x y : A) → tell (Ok x) ≡ tell (Ok y) → x ≡ y) → OneToOne tell
  result-one done (Ok x) (Ok y) e = ap Ok (done x y e)
  result-one done (Ok x) (Err g) e = absurd (refuses g (sym (ap (λ (z : Refusal). z.number) (alike (Ok x) (Err g) e))))
  result-one done (Err f) (Ok y) e = absurd (refuses f (ap (λ (z : Refusal). z.number) (alike (Err f) (Ok y) e)))
  result-one done (Err f) (Err g) e = ap Err (refusal-one f g (alike (Err f) (Err g) e))

-- two results that are told alike are one: what a contract says of the answer it says of the result
pub answered-one : OneToOne answered
answered-one = result-one answered heard (λ r. refl) (λ t u e. ap (λ (a : Answer). a.tally) e)

-- the same of a check, which has no counts
pub checked-one : OneToOne (λ (r : Result (Unit {0}) given.Refusal). answer (refused r) no_counts)
checked-one = result-one (λ (r : Result (Unit {0}) given.Refusal). answer (refused r) no_counts) heard (λ r. refl) (λ x y e. refl)

-- and of a size
size_heard : (r : Result ℕ given.Refusal) → heard (size_answered r).answer ≡ refused r
size_heard (Ok size) = refl
size_heard (Err e) = refl

pub size_answered-one : OneToOne size_answered
size_answered-one = result-one size_answered (λ (a : SizeAnswer). heard a.answer) size_heard (λ m n e. ap (λ (a : SizeAnswer). a.size) e)
