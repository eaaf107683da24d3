use Rattle.image.specs.Image.{each, private_numbers_at}
use Rattle.save.proofs.walking.put_privates.Given as goal

abbrev pub ghost-put_each : goal.ghost-put_each
ghost-put_each a = λ v. each (private_numbers_at a.shape a.words.now v) 32
