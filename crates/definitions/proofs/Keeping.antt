-- The changes of a register that keep a book sound.
use Rattle.std.proofs.Common.{◌≡◌, ℕ, ◌+◌, ◌-◌, ◌<◌, ◌≤◌, true, ap, ⊎_elim, arith}
use Rattle.std.proofs.lemmas.Bool.{cases_eq}
use Rattle.register.specs.Holdings.{Holdings, the_cap, credited, debited, total_of}
use Rattle.register.proofs.Changed.{line_most, total_credited, total_debited, total_elsewhere, total_moved}
use Rattle.definitions.specs.Sound.{Sound, Upright}
use Rattle.definitions.specs.States.{State, with_held}

module _ (x : State) (sound : Sound x) (a s q : ℕ) (inside : a < x.held.accounts) where
  pub sound_debited : q ≤ x.held.free a s → Sound (with_held x (debited x.held a s q))
  sound_debited l = record {
    capped = λ o t m.
        ⊎_elim
        (λ (e : s ≡ t). omega (arith, total_debited x.held a s q inside l, sound.capped o t m, ap (total_of x.held) e, ap (total_of (debited x.held a s q)) e))
        (λ (e : s ≡ t → ⊥). omega (arith, total_elsewhere x.held a s (x.held.free a s - q) t e, sound.capped o t m))
        (cases_eq s t);
  }

  pub sound_credited : (x.kept.opened ≡ true → total_of x.held s + q ≤ the_cap) → Sound (with_held x (credited x.held a s q))
  sound_credited l = record {
    capped = λ o t m.
        ⊎_elim
        (λ (e : s ≡ t). omega (arith, total_credited x.held a s q inside, l o, ap (total_of (credited x.held a s q)) e))
        (λ (e : s ≡ t → ⊥). omega (arith, total_elsewhere x.held a s (x.held.free a s + q) t e, sound.capped o t m))
        (cases_eq s t);
  }

  -- a line has room for what its security's total has room for
  pub room_on_line : total_of x.held s + q ≤ the_cap → x.held.free a s + q ≤ the_cap
  room_on_line l = omega (arith, line_most x.held a s inside)

-- Shares that pass from one account to another.
module _ (x : State) (sound : Sound x) (a b s q : ℕ) (from : a < x.held.accounts) (to : b < x.held.accounts) (enough : q ≤ x.held.free a s) where
  pub sound_moved : Sound (with_held x (credited (debited x.held a s q) b s q))
  sound_moved = record { capped = λ o t m. omega (arith, total_moved x.held a b s q from to enough t, sound.capped o t m) }

  -- the receiver has room for them
  pub room_to_move : total_of x.held s ≤ the_cap → (debited x.held a s q).free b s + q ≤ the_cap
  room_to_move l = omega (arith, line_most (debited x.held a s q) b s to, total_debited x.held a s q from enough)

-- What is upright is sound.
pub upright_sound : (x : State) → Upright x → Sound x
upright_sound x u = record { capped = λ o. (u.borne o).capped }

-- Whatever keeps a book sound, and alters no more than its free shares, keeps it upright.
module _ (x : State) (u : Upright x) where
  freed : (f : ℕ → ℕ → ℕ) → let h : Holdings = record { accounts = x.held.accounts; securities = x.held.securities; free = f; reserved = x.held.reserved } in Sound (with_held x h) → Upright (with_held x h)
  freed f k = record {
    ranged = u.ranged;
    borne = λ o. record { securities = (u.borne o).securities; capped = k.capped o; lines = (u.borne o).lines; reserved = (u.borne o).reserved };
  }

  pub upright_debited : (a s q : ℕ) → a < x.held.accounts → q ≤ x.held.free a s → Upright (with_held x (debited x.held a s q))
  upright_debited a s q inside l = freed _ (sound_debited x (upright_sound x u) a s q inside l)

  pub upright_credited : (a s q : ℕ) → a < x.held.accounts → (x.kept.opened ≡ true → total_of x.held s + q ≤ the_cap) → Upright (with_held x (credited x.held a s q))
  upright_credited a s q inside l = freed _ (sound_credited x (upright_sound x u) a s q inside l)

  pub upright_moved : (a b s q : ℕ) → a < x.held.accounts → b < x.held.accounts → q ≤ x.held.free a s → Upright (with_held x (credited (debited x.held a s q) b s q))
  upright_moved a b s q from to enough = freed _ (sound_moved x (upright_sound x u) a b s q from to enough)
