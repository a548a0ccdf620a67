use mathlib.Core.Path.{refl}
use Rattle.entries.proofs.Marks.{entered-free, entered-beyond, entered-5, entered-6, entered-0}
use Rattle.entries.proofs.parts.name_entry.Goals as goal

pub returns-then-x-eq-FREE : goal.returns-then-x-eq-FREE
returns-then-x-eq-FREE c = record { number = entered-free _ _ c.if-x-eq-FREE.true; entry = record {} }

pub returns-then-at-ge-MAX_SLOTS : goal.returns-then-at-ge-MAX_SLOTS
returns-then-at-ge-MAX_SLOTS c = record { number = entered-beyond _ _ c.if-x-eq-FREE.false c.if-at-ge-MAX_SLOTS.true; entry = refl }

pub returns-then-mark-eq0 : goal.returns-then-mark-eq0
returns-then-mark-eq0 c = record { number = entered-5 _ _ c.if-x-eq-FREE.false c.if-at-ge-MAX_SLOTS.false c.if-mark-eq0.true; entry = refl }

pub returns-then-mark-ne1 : goal.returns-then-mark-ne1
returns-then-mark-ne1 c =
    record { number = entered-6 _ _ c.if-x-eq-FREE.false c.if-at-ge-MAX_SLOTS.false c.if-mark-eq0.false c.if-mark-ne1.true; entry = record {} }

pub returns : goal.returns
returns c = record { number = entered-0 _ _ c.if-x-eq-FREE.false c.if-at-ge-MAX_SLOTS.false c.if-mark-ne1.false; entry = record {} }
