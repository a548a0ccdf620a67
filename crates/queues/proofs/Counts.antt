-- Counts in a list, one slot more at a time. Assumes nothing.
use mathlib.Core.Path.{◌≡◌, refl, sym, ◌∙◌}
use mathlib.Core.Bool.{Bool, true, false}
use mathlib.Core.Logic.{◌≢◌}
use mathlib.Core.List.{List}
use Prim.Native.Nat.{ℕ, ◌+◌, ◌≤◌, ◌<◌}
use native.Mathlib.Omega.{arith}
use native.Mathlib.Decide.{ℕ_discrete}
use lib.ListN.{length, get_or, set, length-set}
use lib.Seq.{get_or-set_same, get_or-set_other, set-get_or}
use Rattle.counting.specs.Tests.{bit, pick}
use Rattle.counting.specs.Count.{count}
use Rattle.counting.proofs.Tests.{by-test, no_way}
use Rattle.counting.proofs.Count.{count-on, count-off}
use Rattle.queues.specs.parts.Queued.{one_more}

-- to add 0 or 1 by a test is to add one where it passes
pub more_by : (test : Bool) (k : ℕ) (l : List ℕ) → set l k (get_or l k 0 + bit test) ≡ pick test (one_more l k) l
unfolding one_more
more_by true k l = refl
more_by false k l =
    let e : get_or l k 0 + 0 ≡ get_or l k 0 = omega arith in
    rw e (set-get_or l k 0)

-- counts before and after a slot, which adds one at k where its test passes
module _ (test : Bool) (k : ℕ) (l l' : List ℕ) (e : l' ≡ pick test (one_more l k) l) (h : test ≡ true → k < length l) where
  -- where the test passes, the count at k is one more
  one_same : test ≡ true → get_or l' k 0 ≡ get_or l k 0 + 1
  unfolding one_more
  one_same t = rw (e, t) (get_or-set_same l k (get_or l k 0 + 1) 0 (h t))

  -- any other is the same
  one-other : (j : ℕ) → (test ≡ true → j ≢ k) → get_or l' j 0 ≡ get_or l j 0
  unfolding one_more
  one-other j d = by-test test (λ t. rw (e, t) (get_or-set_other l k j (get_or l k 0 + 1) 0 (d t))) (λ t. rw (e, t))

  -- a count of the slots below g that pass f goes on to count slot g
  pub one-count : (g j : ℕ) (f : ℕ → Bool) → get_or l j 0 ≡ count g f → (test ≡ true → j ≡ k → f g ≡ true) → ((test ≡ true → j ≢ k) → f g ≡ false) → get_or l' j 0 ≡ count (g + 1) f
  one-count g j f c y n = by-test test
      (λ t. elim (ℕ_discrete j k) [
        | yes q ↦ let z : get_or l' j 0 ≡ get_or l j 0 + 1 = rw q (one_same t) in omega (arith, count-on g f (y t q))
        | no d ↦ one-other j (λ _. d) ∙ c ∙ sym (count-off g f (n (λ _. d)))
      ])
      (λ t. let d : test ≡ true → j ≢ k = λ u. absurd (no_way u t) in one-other j d ∙ c ∙ sym (count-off g f (n d)))

  -- none is above the number of slots
  pub one-few : (g : ℕ) → ((j : ℕ) → get_or l j 0 ≤ g) → (j : ℕ) → get_or l' j 0 ≤ g + 1
  one-few g c j = by-test test
      (λ t. elim (ℕ_discrete j k) [ yes q ↦ rw q (omega (arith, one_same t, c k)) | no d ↦ omega (arith, one-other j (λ _. d), c j) ])
      (λ t. omega (arith, one-other j (λ u. absurd (no_way u t)), c j))

  -- they are as many
  pub one-long : length l' ≡ length l
  unfolding one_more
  one-long = by-test test (λ t. rw (e, t) (length-set l k (get_or l k 0 + 1))) (λ t. rw (e, t))
