use Rattle.copies.proofs.parts.chains.+make_shift.Given as goal

abbrev pub decreases-make_shift : goal.decreases-make_shift
decreases-make_shift g l = l.left
