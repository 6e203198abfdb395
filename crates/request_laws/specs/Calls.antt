-- Statements of calls on lent bytes, versions of them, and results that are packed into one number.
use Rattle.std.specs.Prelude.{◌≡◌, List, ℕ, ◌+◌, ◌*◌, ◌≤◌}
use Rattle.meaning.specs.Refusals.{Refusal}
use Rattle.meaning.specs.Calls.{Left}

-- The statement of a call: what it leaves for each input and each lent output.
abbrev pub Statement : Type 1
Statement = (input before : List ℕ) (refusal : Refusal) (after : List ℕ) → Type 0

-- The call leaves this.
abbrev pub Leaves : Statement → (input before : List ℕ) → Left → Type 0
Leaves S input before l = S input before l.refusal l.after

-- A version of a call, and that it meets its statement.
abbrev pub Call : Type 0
Call = (input before : List ℕ) → Left

abbrev pub Meets : Statement → Call → Type 0
Meets S call = (input before : List ℕ) → Leaves S input before (call input before)

-- "each call returns the number plus 256 times the place"
pub record Packed (S : Statement) (input before : List ℕ) (result : ℕ) (after : List ℕ) : Type 0 where
  pub refusal : Refusal
  pub is : result ≡ refusal.number + 256 * refusal.place
  pub called : S input before refusal after

-- A refusal that packs into one number without loss.
pub record Small (refusal : Refusal) : Type 0 where
  pub number≤6 : refusal.number ≤ 6
  pub place≤2 : refusal.place ≤ 2
