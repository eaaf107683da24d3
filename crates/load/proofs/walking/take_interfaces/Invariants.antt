use Rattle.load.proofs.walking.take_interfaces.Given as goal

abbrev pub ghost-take_each : goal.ghost-take_each
ghost-take_each a = (0, 1)
