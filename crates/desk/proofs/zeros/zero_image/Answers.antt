use Rattle.std.proofs.Common.{ℕ, List, set, ap, ◌∙◌, arith}
use Rattle.image.specs.Image.{imaged}
use Rattle.desk.proofs.ZeroBytes.{shows_zeros}
use Rattle.desk.proofs.zeros.zero_image.Goals as goal

pub returns : goal.returns
returns c =
    ap (λ (bs : List ℕ). imaged (set (set bs 1 64) 3 16)) (c.in_ok-bytes.ensures.items_if_clones_equal (λ y e. e)) ∙ shows_zeros 16388 (omega arith)
