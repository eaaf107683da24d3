use Rattle.load.proofs.walking.take_stacks.Given as goal

abbrev pub ghost-take_each : goal.ghost-take_each
ghost-take_each a = (a.shape.count, 1)
