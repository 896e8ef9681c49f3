-- What changes of one line do to the numbers of any line.
use Rattle.std.proofs.Common.{◌≡◌, ℕ, ◌+◌, ◌-◌, ◌≤◌, true, false, ◌&&◌, eqb, ⊎_elim, arith}
use Rattle.std.proofs.lemmas.Bool.{cases_Bool, cond-true, cond-false, and_parts, eqb-true}
use Rattle.register.specs.Holdings.{Holdings, put, credited, debited, registered}
use Rattle.definitions.specs.States.{on_line}

-- The line (b, t) is the line (a, s), or the test says no.
module _ (f : ℕ → ℕ → ℕ) (b t n a s : ℕ) where
  same_line : (eqb b a && eqb t s) ≡ true → f b t ≡ f a s
  same_line e =
      let p = and_parts _ _ e in
      let u : b ≡ a = eqb-true b a p.0 in
      let v : t ≡ s = eqb-true t s p.1 in
      cc

  -- a number raised, beside another number m
  pub put_more : (m : ℕ) → put f b t (f b t + n) a s + m ≡ f a s + (on_line a s b t n + m)
  put_more m =
      ⊎_elim
      (λ (e : (eqb b a && eqb t s) ≡ true). omega (arith, same_line e, cond-true _ (f b t + n) (f a s) e, cond-true _ n 0 e))
      (λ (e : (eqb b a && eqb t s) ≡ false). omega (arith, cond-false _ (f b t + n) (f a s) e, cond-false _ n 0 e))
      (cases_Bool (eqb b a && eqb t s))

  -- a number lowered, and then by m more
  pub put_less : (m : ℕ) → put f b t (f b t - n) a s - m ≡ f a s - (on_line a s b t n + m)
  put_less m =
      ⊎_elim
      (λ (e : (eqb b a && eqb t s) ≡ true). omega (arith, same_line e, cond-true _ (f b t - n) (f a s) e, cond-true _ n 0 e))
      (λ (e : (eqb b a && eqb t s) ≡ false). omega (arith, cond-false _ (f b t - n) (f a s) e, cond-false _ n 0 e))
      (cases_Bool (eqb b a && eqb t s))

  -- the same of a number that is large enough
  put_taken : n ≤ f b t → put f b t (f b t - n) a s + on_line a s b t n ≡ f a s
  put_taken l =
      ⊎_elim
      (λ (e : (eqb b a && eqb t s) ≡ true). omega (arith, same_line e, cond-true _ (f b t - n) (f a s) e, cond-true _ n 0 e))
      (λ (e : (eqb b a && eqb t s) ≡ false). omega (arith, cond-false _ (f b t - n) (f a s) e, cond-false _ n 0 e))
      (cases_Bool (eqb b a && eqb t s))

-- What a credit and a debit do to the registered shares of any line.
module _ (h : Holdings) (b t q a s : ℕ) where
  pub credited_line : registered (credited h b t q) a s ≡ registered h a s + on_line a s b t q
  credited_line = omega (arith, put_more h.free b t q a s (h.reserved a s))

  pub debited_line : q ≤ h.free b t → registered (debited h b t q) a s + on_line a s b t q ≡ registered h a s
  debited_line l = omega (arith, put_taken h.free b t q a s l)
