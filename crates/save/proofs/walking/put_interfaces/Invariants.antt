use Rattle.image.specs.Image.{interface_numbers}
use Rattle.save.proofs.walking.put_interfaces.Given as goal

abbrev pub ghost-put_each : goal.ghost-put_each
ghost-put_each a = interface_numbers a.shape a.words.now
