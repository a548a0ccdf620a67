use Rattle.copies.proofs.parts.chains.+make_chain.Given as goal

abbrev pub decreases-make_chain : goal.decreases-make_chain
decreases-make_chain g l = l.left
