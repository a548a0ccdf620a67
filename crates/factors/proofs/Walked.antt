-- The walk through a factor: the slots that follow its first, and the copies by them. Assumes nothing.
use mathlib.Core.Path.{◌≡◌, refl, sym, ap, ◌∙◌}
use mathlib.Core.Logic.{◌≢◌, inl, inr}
use mathlib.Core.Bool.{Bool, true, false}
use mathlib.Core.List.{List, [], ◌∷◌, ◌++◌, append-nil}
use Prim.Native.Nat.{ℕ, zero, suc, ◌+◌, ◌-◌, ◌≤◌, ◌<◌}
use native.Mathlib.Omega.{arith}
use native.Mathlib.Decide.{ℕ_discrete}
use lib.Dec.{eqb}
use lib.ListN.{length, get_or, length-append}
use borrow.Author.Tests.{eq-eqb, ne_eqb}
use Rattle.counting.specs.Tests.{◌or◌, pick}
use Rattle.counting.specs.Lists.{among, last}
use Rattle.counting.proofs.Members.{among-append}
use Rattle.counting.proofs.Lists.{length_none}
use Rattle.counting.proofs.Tests.{by-test}
use Rattle.racks.specs.Limits.{FREE, HAND}
use Rattle.racks.specs.Table.{dest}
use Rattle.racks.proofs.Table.{read-dest}
use Rattle.factors.specs.Copies.{source, onward, back, head, factor, shift, cycle, copies}
use Rattle.factors.specs.parts.Chains.{Chained}
use Rattle.factors.specs.parts.Walks.{steps, Inside, walked, walk_count, hand_end, Marked, MarkedOn, MarkedBack, Walked}
use Rattle.counting.specs.Every.{In}
use Rattle.factors.proofs.Walks.{Path, after_stop}
use Rattle.factors.proofs.Chains.{onward-low, onward_path, onward-end, on-cycle, head-cases, head-low, cycle_source, cycle-ends, shift-ends, source-low}
use Rattle.factors.proofs.Walking.{mark-more}
use Rattle.factors.proofs.Behind.{behind-count, behind-among}
use Rattle.factors.proofs.Costs.{length_shift, copies-shift, copies-cycle}

-- n slots follow
pub length-steps : (f : ℕ → ℕ) (n x : ℕ) → length (steps f n x) ≡ n
unfolding steps
length-steps f zero x = refl
length-steps f (suc n) x = ap suc (length-steps f n (f x))

steps_path : (f : ℕ → ℕ) (s x : ℕ) (l : List ℕ) → Path f s x l → steps f (length l) x ≡ l
unfolding steps
steps_path f s x [] w = refl
steps_path f s x (y ∷ l) w = rw (w.0, steps_path f s y l w.3)

-- x, and what follows it
pub inside-here : (places : List ℕ) (n x : ℕ) → Inside places n x → x < length places
unfolding Inside
inside-here places zero x h = h
inside-here places (suc n) x h = h.0

-- the entry there is the slot that follows
pub inside-step : (places : List ℕ) (n x y : ℕ) → Inside places n x → y ≡ get_or places x 0 → y ≡ dest places x
inside-step places n x y h e = e ∙ read-dest places x (inside-here places n x h)

-- what follows it, from the next slot on
pub inside-next : (places : List ℕ) (n x y : ℕ) → Inside places n x → y ≡ get_or places x 0 → n ≢ 0 → Inside places (n - 1) y
unfolding Inside
inside-next places zero x y h e q = absurd (q refl)
inside-next places (suc n) x y h e q = let i : suc n - 1 ≡ n = omega arith in rw (i, inside-step places (suc n) x y h e) h.1

inside_path : (places : List ℕ) (s x : ℕ) (l : List ℕ) → Path (dest places) s x l → ((v : ℕ) → In v (x ∷ l) → v < length places) → Inside places (length l) x
unfolding Inside
inside_path places s x [] w b = b x (inl refl)
inside_path places s x (y ∷ l) w b = (b x (inl refl), rw w.0 (inside_path places s y l w.3 (λ v m. b v (inr m))))

-- a factor has a copy for each slot that follows, at least
pub walk-left : (n end : ℕ) → n ≤ walk_count n end
unfolding walk_count
walk-left n end = by-test (eqb end FREE) (λ t. rw t (omega arith)) (λ t. rw t (omega arith))

-- a shift has as many
pub count-shift : (n end : ℕ) → end ≡ FREE → walk_count n end ≡ n
unfolding walk_count
count-shift n end e = rw (eq-eqb end FREE e)

-- by the hand there are two more
pub count-hand : (n end : ℕ) → end ≢ FREE → walk_count n end ≡ n + 2
unfolding walk_count
count-hand n end q = rw (ne_eqb end FREE q)

-- the copies of a factor, as they are walked
module _ (places : List ℕ) (h n end : ℕ) where
  -- no card goes to the hand: a shift
  pub walked-shift : end ≡ FREE → walked places h n end ≡ shift h (steps (dest places) n h)
  unfolding walked
  walked-shift e = rw (eq-eqb end FREE e)

  -- one does: by the hand
  pub walked-hand : end ≢ FREE → walked places h n end ≡ (end, HAND) ∷ shift h (steps (dest places) n h) ++ (HAND, h) ∷ []
  unfolding walked
  walked-hand q = rw (ne_eqb end FREE q)

  -- a copy for each slot that follows, and two more by the hand
  pub length-walked : length (walked places h n end) ≡ walk_count n end
  unfolding walk_count
  length-walked = elim (ℕ_discrete end FREE) [
    | yes e ↦ ap length (walked-shift e) ∙ length-chain h ∙ rw (eq-eqb end FREE e)
    | no q ↦ ap length (walked-hand q) ∙ by_hand ∙ rw (ne_eqb end FREE q)
  ]
    where
      length-chain : (x : ℕ) → length (shift x (steps (dest places) n x)) ≡ n
      length-chain x = length_shift x (steps (dest places) n x) ∙ length-steps (dest places) n x

      by_hand : length ((end, HAND) ∷ shift h (steps (dest places) n h) ++ (HAND, h) ∷ []) ≡ n + 2
      by_hand = omega (arith, length-append (shift h (steps (dest places) n h)) ((HAND, h) ∷ []), length-chain h)

-- the factor of slot k, from its first slot h, which s's card comes to; n slots follow
module _ {places : List ℕ} (ok : Chained places) (k : ℕ) (low : k < length places) (h n s : ℕ) (is : h ≡ head places k) (size : n ≡ length (onward places h)) (from : s ≡ source places h) where
  here : h < length places
  here = rw is (head-low ok k low)

  -- the n slots that follow h
  pub walk_inside : Inside places n h
  walk_inside = rw size (inside_path places h h (onward places h) (onward_path ok h here) (onward-low ok h here))

  steps-onward : steps (dest places) n h ≡ onward places h
  steps-onward = rw size (steps_path (dest places) h h (onward places h) (onward_path ok h here))

  factor-is : factor places k ≡ h ∷ onward places h
  unfolding factor
  factor-is = rw is

  turns : source places h ≢ FREE → dest places (last h (onward places h)) ≡ h
  turns q = rw (← is) at (cycle-ends ok k low (λ e. q (ap (source places) is ∙ e)))

  -- a card comes to h: the factor is a cycle, and that card its last
  round : source places h ≢ FREE → copies places (h ∷ onward places h) ≡ cycle h (onward places h)
  round q = copies-cycle places h (onward places h) (λ e. omega (arith, ok.small, here, sym (turns q) ∙ e))

  unrolled : (l : List ℕ) (e : ℕ) → length l ≢ 0 → last h l ≡ e → cycle h l ≡ (e, HAND) ∷ shift h l ++ (HAND, h) ∷ []
  unfolding cycle last
  unrolled [] e w i = absurd (w refl)
  unrolled (y ∷ l) e w i = rw i

  none_left : n ≡ 0 → onward places h ≡ []
  unfolding steps
  none_left z = sym steps-onward ∙ ap (λ (m : ℕ). steps (dest places) m h) z

  -- its copies
  pub walk-copies : copies places (factor places k) ≡ walked places h n (hand_end s n)
  unfolding hand_end cycle steps shift
  walk-copies = ap (copies places) factor-is ∙ elim (ℕ_discrete (source places h) FREE) [
    | yes e ↦
        let f : hand_end s n ≡ FREE = by-test (eqb n 0) (λ t. rw t) (λ t. rw t (from ∙ e)) in
        copies-shift places h (onward places h) (shift-ends ok h here e) ∙ ap (shift h) (sym steps-onward) ∙ sym (walked-shift places h n (hand_end s n) f)
    | no q ↦ elim (ℕ_discrete n 0) [
      | yes z ↦ round q ∙ ap (cycle h) (none_left z) ∙ sym (walked-shift places h n (hand_end s n) (rw (eq-eqb n 0 z)) ∙ rw z)
      | no z ↦
          let f : hand_end s n ≡ source places h = rw (ne_eqb n 0 z) from in
          round q ∙ unrolled (onward places h) (source places h) (λ e. z (size ∙ e)) (sym (cycle_source ok h here (turns q))) ∙ rw (← steps-onward, ← f) (sym (walked-hand places h n (hand_end s n) (λ e. q (sym f ∙ e))))
    ]
  ]

  -- the card that goes to the hand is in a slot
  pub walk-held : hand_end s n ≢ FREE → hand_end s n < length places
  unfolding hand_end
  walk-held = elim (ℕ_discrete n 0) [
    | yes z ↦ λ q. absurd (q (rw (eq-eqb n 0 z)))
    | no z ↦ λ q. let f : hand_end s n ≡ source places h = rw (ne_eqb n 0 z) from in rw f (source-low ok h (λ e. q (f ∙ e)))
  ]

  -- its slots are marked
  pub walk-marked : (mark : ℕ) (seen after : List ℕ) → Marked mark (h ∷ onward places h) seen after → Marked mark (factor places k) seen after
  walk-marked mark seen after m = rw factor-is m

-- the same slots in another order
mark-same : (mark : ℕ) (a b seen after : List ℕ) → ((v : ℕ) → among v a ≡ among v b) → Marked mark a seen after → Marked mark b seen after
mark-same mark a b seen after e m = record { marks = λ v. m.marks v ∙ ap (λ (t : Bool). pick t mark (get_or seen v 0)) (e v); long = m.long }

or_swap : (a b : Bool) → (a or b) ≡ (b or a)
unfolding ◌or◌
or_swap true true = refl
or_swap true false = refl
or_swap false true = refl
or_swap false false = refl

-- the factor of slot k, walked from there on
module _ {places : List ℕ} (ok : Chained places) (mark k : ℕ) (low : k < length places) (seen s₁ : List ℕ) (h₀ n end : ℕ) (on : MarkedOn places mark k seen h₀ n end s₁) where
  -- it comes to k again: a cycle
  pub walked-cycle : end ≢ FREE → Walked places mark k seen h₀ n end s₁
  walked-cycle q = elim on.ends [
    | inr e ↦ absurd (q e.1)
    | inl e ↦
        let is : k ≡ head places k = sym (on-cycle ok k low e.0) in
        let j : end ≡ hand_end (source places k) n = e.1 ∙ ap (λ (l : ℕ). hand_end l n) (sym (cycle_source ok k low e.0)) in
        rw on.head-is (record {
          copies-are = walk-copies ok k low k n (source places k) is on.left_is refl ∙ ap (walked places k n) (sym j);
          inside = walk_inside ok k low k n (source places k) is on.left_is refl;
          held = λ p. rw j (walk-held ok k low k n (source places k) is on.left_is refl (λ u. p (j ∙ u)));
          marked = walk-marked ok k low k n (source places k) is on.left_is refl mark seen s₁ on.marked;
        })
  ]

  -- it does not, or k's card is settled: then back from k
  module _ (none : end ≡ FREE) (s₂ : List ℕ) (h m : ℕ) (bk : MarkedBack places mark k s₁ h m s₂) where
    both : Marked mark ((k ∷ onward places k) ++ back places k) seen s₂
    both = mark-more mark (k ∷ onward places k) (back places k) seen s₁ s₂ on.marked bk.marked

    from-head : (is : h ≡ head places k) (size : m + n ≡ length (onward places h)) → hand_end (source places h) (m + n) ≡ FREE → ((v : ℕ) → among v ((k ∷ onward places k) ++ back places k) ≡ among v (h ∷ onward places h)) → Walked places mark k seen h (m + n) FREE s₂
    from-head is size e same = record {
      copies-are = walk-copies ok k low h (m + n) (source places h) is size refl ∙ ap (walked places h (m + n)) e;
      inside = walk_inside ok k low h (m + n) (source places h) is size refl;
      held = λ q. absurd (q refl);
      marked = walk-marked ok k low h (m + n) (source places h) is size refl mark seen s₂ (mark-same mark _ _ seen s₂ same both);
    }

    no-hand : (s c : ℕ) → (c ≢ 0 → s ≡ FREE) → hand_end s c ≡ FREE
    unfolding hand_end
    no-hand s c f = elim (ℕ_discrete c 0) [ yes z ↦ rw (eq-eqb c 0 z) | no z ↦ rw (ne_eqb c 0 z) (f z) ]

    along : dest places (last k (onward places k)) ≡ FREE → Walked places mark k seen h (m + n) FREE s₂
    along e = elim (head-cases ok k low) [
      | inl u ↦ absurd (omega (arith, sym e ∙ u.1, ok.small))
      | inr u ↦
          let is : h ≡ head places k = bk.head-is ∙ sym u.0 in
          let start : source places (last k (back places k)) ≡ FREE = ap (source places) (sym u.0) ∙ u.1 in
          let there : last k (back places k) < length places = rw u.0 at (head-low ok k low) in
          from-head is
          (ap (λ (c : ℕ). c + n) bk.left_is ∙ ap (λ (c : ℕ). length (back places k) + c) on.left_is ∙ sym (behind-count ok k low e start there) ∙ ap (λ (x : ℕ). length (onward places x)) (sym bk.head-is))
          (no-hand (source places h) (m + n) (λ _. ap (source places) bk.head-is ∙ start))
          (λ v.
          among-append v (k ∷ onward places k) (back places k) ∙ or_swap (among v (k ∷ onward places k)) (among v (back places k)) ∙ sym (behind-among ok k low e start there v)
          ∙ ap (λ (x : ℕ). among v (x ∷ onward places x)) (sym bk.head-is))
    ]

    alone : dest places (last k (onward places k)) ≡ k → n ≡ 0 → Walked places mark k seen h (m + n) FREE s₂
    unfolding back last
    alone e z =
        let c : onward places k ≡ [] = length_none (onward places k) (sym on.left_is ∙ z) in
        let t : dest places k ≡ k = rw c at e in
        let b : back places k ≡ [] = after_stop (source places) k (length places) k (inr (cycle_source ok k low e ∙ ap (last k) c)) in
        let i : h ≡ k = bk.head-is ∙ ap (last k) b in
        let w : m ≡ 0 = bk.left_is ∙ ap length b in
        from-head (i ∙ sym (on-cycle ok k low e)) (omega (arith, ap (λ (x : ℕ). length (onward places x)) i, ap length c)) (no-hand (source places h) (m + n) (λ q. absurd (q (omega arith))))
        (λ v. ap (λ (l : List ℕ). among v ((k ∷ onward places k) ++ l)) b ∙ ap (among v) (append-nil (k ∷ onward places k)) ∙ ap (λ (x : ℕ). among v (x ∷ onward places x)) (sym i))

    -- so it begins where the way back ends
    pub walked-back : Walked places mark k seen h (m + n) FREE s₂
    unfolding hand_end
    walked-back = elim on.ends [
      | inr e ↦ along e.0
      | inl e ↦ alone e.0 (settled_only (last k (onward places k)) (onward-end ok k low) (sym e.1 ∙ none))
    ]
      where
        settled_only : (l : ℕ) → l < length places → hand_end l n ≡ FREE → n ≡ 0
        settled_only l b e = elim (ℕ_discrete n 0) [ yes z ↦ z | no z ↦ absurd (omega (arith, ok.small, rw (ne_eqb n 0 z) at e)) ]
