use Rattle.charmlet_image.proofs.ImageLemmas.{image-lawful, header-lawful}
use Rattle.charmlet_image.proofs.laws.images_are_lawful.Goals as goal

pub returns : goal.returns
returns c = record { images = image-lawful; headers = header-lawful }
