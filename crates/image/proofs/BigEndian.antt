-- A number of eight bytes, written and read.
use Rattle.std.proofs.Common.{◌≡◌, ℕ, ◌+◌, ◌/◌, ◌%◌, ◌^◌, ◌<◌, ◌≤◌, List, [], ◌∷◌, length, get_or, ap, ◌∙◌, arith}
use borrow.Rule.Slice.PartMut.{put_mid}
use Rattle.std.proofs.lemmas.List.{places}
use Rattle.image.specs.Image.{u64_at}

abbrev pub big : ℕ → List ℕ
big v =
    (v / 72057594037927936 % 256) ∷ (v / 281474976710656 % 256) ∷ (v / 1099511627776 % 256) ∷ (v / 4294967296 % 256) ∷ (v / 16777216 % 256) ∷ (v / 65536 % 256) ∷ (v / 256 % 256) ∷ (v % 256) ∷ []

pub big_value : (v : ℕ) → v < 2 ^ 64 → u64_at (big v) 0 ≡ v
big_value v fits = omega arith

pub get_d_written : (at k : ℕ) (bs ys : List ℕ) (j : ℕ) → at ≤ length bs → j < length ys → get_or (put_mid at k bs ys) (at + j) 0 ≡ get_or ys j 0
get_d_written at k bs ys j le lt = grind (arith, places)

pub u64_at_written : (at k : ℕ) (bs ys : List ℕ) (v : ℕ) → at ≤ length bs → ys ≡ big v → v < 2 ^ 64 → u64_at (put_mid at k bs ys) at ≡ v
u64_at_written at k bs ys v le e fits =
    let n : 8 ≤ length ys = rw e (omega arith) in
    let g0 : get_or (put_mid at k bs ys) at 0 ≡ get_or ys 0 0 = grind (arith, places) in
    let g1 = get_d_written at k bs ys 1 le (omega arith) in
    let g2 = get_d_written at k bs ys 2 le (omega arith) in
    let g3 = get_d_written at k bs ys 3 le (omega arith) in
    let g4 = get_d_written at k bs ys 4 le (omega arith) in
    let g5 = get_d_written at k bs ys 5 le (omega arith) in
    let g6 = get_d_written at k bs ys 6 le (omega arith) in
    let g7 = get_d_written at k bs ys 7 le (omega arith) in
    let same : u64_at (put_mid at k bs ys) at ≡ u64_at ys 0 = omega arith in
    same ∙ (ap (λ zs. u64_at zs 0) e ∙ big_value v fits)
