-- Changes as values, and what a register answers to one.
use Rattle.std.specs.Prelude.{◌≡◌, ℕ}
use Rattle.register.specs.Holdings.{Holdings, Changes, Creditable, credited, Debitable, debited, Holdable, held, Releasable, released}
use Rattle.registers.specs.declared.changes.Line.{Line}
use Rattle.registers.specs.declared.changes.Answer.{Answer}
use Rattle.registers.specs.declared.changes.Change.{Change}
use Rattle.registers.specs.declared.changes.Kind.{Kind}
use Rattle.registers.specs.declared.changes.Kind.TheVariants.{Credit, Debit, Hold, Release}

-- The line that a change is of.
abbrev pub line_of : Change → Line
line_of x = x.line

-- The holdings allow a change of this kind of the line, by q shares.
abbrev pub AllowedKind : Kind → Line → ℕ → Holdings → Type 0
AllowedKind Credit l q h = Creditable h l.account l.security q
AllowedKind Debit l q h = Debitable h l.account l.security q
AllowedKind Hold l q h = Holdable h l.account l.security q
AllowedKind Release l q h = Releasable h l.account l.security q

-- The holdings allow the change.
abbrev pub Allowed : Change → Holdings → Type 0
Allowed x h = AllowedKind x.kind x.line x.shares h

-- What a change of this kind makes of them.
abbrev pub changed_kind : Kind → Line → ℕ → Holdings → Holdings
changed_kind Credit l q h = credited h l.account l.security q
changed_kind Debit l q h = debited h l.account l.security q
changed_kind Hold l q h = held h l.account l.security q
changed_kind Release l q h = released h l.account l.security q

-- What the change makes of them.
abbrev pub changed : Change → Holdings → Holdings
changed x h = changed_kind x.kind x.line x.shares h

-- At the holdings h a change has the answer r, and leaves the holdings k: accepted exactly where it is allowed, it is made, and
-- refused it changes nothing; the answer's numbers are those of its line afterwards.
pub record Answered (h : Holdings) (x : Change) (r : Answer) (k : Holdings) : Type 0 where
  pub outcome : Changes r.outcome (Allowed x h) h (changed x h) k
  pub free : r.free ≡ k.free (line_of x).account (line_of x).security
  pub reserved : r.reserved ≡ k.reserved (line_of x).account (line_of x).security
