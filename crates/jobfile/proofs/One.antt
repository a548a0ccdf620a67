-- The contracts of the readers allow one outcome each; a part of the file is known by its bytes. Assumes nothing.
use mathlib.Core.Path.{◌≡◌, refl, ap, sym, ◌∙◌}
use mathlib.Core.List.{List}
use Prim.Native.Nat.{ℕ}
use native.Mathlib.Omega.{arith}
use denote.Ref.{Bor}
use Rattle.counting.specs.One.{One, OneSeen}
use Rattle.counting.proofs.One.{one-is, one_by}
use Rattle.std.specs.Prelude.{Result, Ok, Err}
use Rattle.answers.specs.Answers.{placeless, refusal_of}
use Rattle.answers.specs.declared.Refusal as given
use Rattle.answers.specs.declared.Refusal.TheVariants as case
use Rattle.answers.proofs.One.{refusal-one}
use Rattle.numerals.specs.Numeral.{Got, refused, numeral, got_of}
use Rattle.numerals.specs.declared.Numeral.{Numeral}
use Rattle.numerals.proofs.Groups.{next-some}
use Rattle.numerals.proofs.Numerals.{form-place, bare-place}
use Rattle.parsing.specs.File.{Read}
use Rattle.parsing.specs.Answers.{FileAnswer, file_answered}
use Rattle.parsing.proofs.One.{file_answered-one}
use Rattle.jobfile.specs.Answers.{read_of, ReadFile, RestOf, CardBytes}
use Rattle.jobfile.specs.Reading.{at_after, Stepped, New, Next, JobFile, job_told, JobRead, job_seen, result_seen, given_seen}
use Rattle.jobfile.specs.declared.Reader.{Reader}
use Rattle.jobfile.specs.declared.JobFile as code

-- a file read into two lent lists
pub filed-one : (file : List ℕ) {allowed : Read → Type 0} → One allowed
    → One (λ ((r, caps, places) : FileAnswer × List ℕ × List ℕ). allowed (read_of r caps places file))
unfolding read_of
filed-one file =
    one_by (λ (x : FileAnswer × List ℕ × List ℕ). read_of x.0 x.1 x.2 file)
    (λ (o : Read). (record { answer = o.answer; racks = o.racks; bytes = o.bytes; slots = o.slots; start = o.start }, o.caps, o.places)) (λ x. refl)

pub read-file-one : (file caps places : List ℕ) → One (λ ((r, caps', places') : FileAnswer × List ℕ × List ℕ). ReadFile file caps places r caps' places')
read-file-one file caps places = filed-one file (one-is _)

pub rest_of-one : (file : List ℕ) (at : ℕ) → OneSeen (λ x. x.now) (λ (r : Bor (List ℕ)). RestOf file at r.now)
rest_of-one file at x y p q = p ∙ sym q

pub card-bytes-one : (file : List ℕ) (found : FileAnswer) → OneSeen (λ x. x.now) (λ (r : Bor (List ℕ)). CardBytes file found r.now)
card-bytes-one file found x y p q = p ∙ sym q

-- a numeral read: a value comes with a position behind it, so it is no refusal
module _ (file : List ℕ) (at : ℕ) where
  no_mix : (x : Numeral) (e : given.Refusal) → got_of (Ok x) ≡ numeral file at → got_of (Err e) ≡ numeral file at → ⊥
  unfolding got_of numeral
  no_mix x e a b =
      omega (arith, next-some 3 file at 0 1 (sym (ap (λ (g : Got). g.number) a)), ap (λ (g : Got). g.next) b)

  -- a refusal has no place
  pub form-bare : (e : given.Refusal) → refused (refusal_of e).number ≡ numeral file at → refusal_of e ≡ placeless (refusal_of e).number
  form-bare e is = bare-place e 15 (form-place file at e case.FileEnds is)

  one-numeral : (m n : Result Numeral given.Refusal) → got_of m ≡ numeral file at → got_of n ≡ numeral file at → m ≡ n
  unfolding got_of
  one-numeral (Ok x) (Ok y) a b = ap (λ (g : Got). Ok (record { value = g.value; next = g.next })) (a ∙ sym b)
  one-numeral (Ok x) (Err e) a b = absurd (no_mix x e a b)
  one-numeral (Err e) (Ok y) a b = absurd (no_mix y e b a)
  one-numeral (Err e) (Err f) a b =
      ap Err (refusal-one e f (form-bare e a ∙ ap (λ (g : Got). placeless g.number) (a ∙ sym b) ∙ sym (form-bare f b)))

pub step-at-one : (file : List ℕ) (at : ℕ) → One (Stepped file at)
step-at-one file at x y p q =
    let e = one-numeral file at x.numeral y.numeral p.got-is q.got-is in
    let f : x.at ≡ y.at = p.at-is ∙ ap (λ (n : Result Numeral given.Refusal). at_after n at) e ∙ sym q.at-is in
    λ i. record { numeral = e i; at = f i }

pub next_one : (reader : Reader) → One (λ ((n, after) : Result Numeral given.Refusal × Reader). Next reader n after)
next_one reader (m, x) (n, y) p q =
    let e = one-numeral reader.file.now reader.at m n p.got-is q.got-is in
    let f : x.at ≡ y.at = p.at-is ∙ ap (λ (k : Result Numeral given.Refusal). at_after k reader.at) e ∙ sym q.at-is in
    let g : x.file ≡ y.file = p.file-is ∙ sym q.file-is in
    λ i. (e i, record { file = g i; at = f i })

pub new-one : (file : Bor (List ℕ)) → One (New file)
new-one file x y p q =
    let f = p.0 ∙ sym q.0 in
    let g = p.1 ∙ sym q.1 in
    λ i. record { file = f i; at = g i }

pub read_job-one : (reader : Reader) (caps places : List ℕ) → OneSeen job_seen (λ ((job, caps', places') : JobFile × List ℕ × List ℕ). JobRead reader caps places job caps' places')
read_job-one reader caps places (x, c, p) (y, d, q) a b =
    let e0 = a.answer-is ∙ sym b.answer-is in
    let e1 = a.racks-are ∙ sym b.racks-are in
    let e2 = a.bytes-are ∙ sym b.bytes-are in
    let e3 = a.slots-are ∙ sym b.slots-are in
    let e4 = a.start_is ∙ sym b.start_is in
    let e5 = a.cards-are ∙ sym b.cards-are in
    let e6 = a.caps-are ∙ sym b.caps-are in
    let e7 = a.places-are ∙ sym b.places-are in
    λ i. (e0 i, e1 i, e2 i, e3 i, e4 i, e5 i, e6 i, e7 i)

-- what is told of a job, as of a file that is read, and its card bytes
found_of : JobFile → FileAnswer × List ℕ
found_of j = (record { answer = j.answer; racks = j.racks; bytes = j.bytes; slots = j.slots; start = j.start }, j.cards)

found-is : (r : Result code.JobFile given.Refusal) → found_of (job_told r) ≡ (file_answered (result_seen r).0, (result_seen r).1)
unfolding found_of
found-is (Ok job) = refl
found-is (Err e) = refl

-- two results that are told alike are seen as equal
pub job_told-seen : (r s : Result code.JobFile given.Refusal) → job_told r ≡ job_told s → result_seen r ≡ result_seen s
job_told-seen r s e =
    let f = sym (found-is r) ∙ ap found_of e ∙ found-is s in
    let g = file_answered-one (result_seen r).0 (result_seen s).0 (ap (λ (x : FileAnswer × List ℕ). x.0) f) in
    λ i. (g i, (f i).1)

pub given-read_job-one : (reader : Reader) (caps places : List ℕ)
    → OneSeen given_seen (λ ((r, caps', places') : Result code.JobFile given.Refusal × List ℕ × List ℕ). JobRead reader caps places (job_told r) caps' places')
given-read_job-one reader caps places (r, c, p) (s, d, q) a b =
    let e = read_job-one reader caps places (job_told r, c, p) (job_told s, d, q) a b in
    let f = job_told-seen r s (λ i. record { answer = (e i).0; racks = (e i).1; bytes = (e i).2; slots = (e i).3; start = (e i).4; cards = (e i).5 }) in
    λ i. ((f i).0, (f i).1, (e i).6, (e i).7)
