use Rattle.image.specs.Image.{service_numbers}
use Rattle.save.proofs.walking.put_stacks.Given as goal

abbrev pub ghost-put_each : goal.ghost-put_each
ghost-put_each a = service_numbers a.shape a.words.now
