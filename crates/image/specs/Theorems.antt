-- The theorem on images.
use Rattle.std.specs.Prelude.{◌≡◌, ℕ, ◌<◌, List, length, slice_index}
use Rattle.image.specs.Image.{imaged, beyond}

-- Each element is a byte.
abbrev pub Bytes : List ℕ → Type 0
Bytes bs = (i : ℕ) → slice_index bs i < 256

-- An image is its holdings and what lies beyond: bytes of one length that agree in these agree in every byte.
abbrev pub ImagesPinned : Type 0
ImagesPinned =
    (bs cs : List ℕ) → Bytes bs → Bytes cs → length bs ≡ length cs → imaged bs ≡ imaged cs → beyond bs ≡ beyond cs → bs ≡ cs
