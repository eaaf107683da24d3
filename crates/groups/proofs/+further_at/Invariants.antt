use Rattle.groups.proofs.+further_at.Given as goal

-- the groups left fall
abbrev pub decreases-further_at : goal.decreases-further_at
decreases-further_at l = l.left
