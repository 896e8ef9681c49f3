-- The holdings that a view of an image shows.
use Rattle.register.specs.Holdings.{Holdings}
use Rattle.image.specs.Image.{imaged}
use Rattle.image.specs.declared.view.Image.{Image}

abbrev pub image_of : Image → Holdings
image_of x = imaged x.bytes.now
