-- A call leaves one refusal and one output, whatever its tests are and in whatever order they are tried.
use mathlib.Core.Path.{◌≡◌, refl, sym, ◌∙◌, ap}
use mathlib.Core.List.{List, [], ◌∷◌}
use Prim.Native.Nat.{ℕ}
use Rattle.meaning.specs.Refusals.{Refusal}
use Rattle.meaning.specs.Statement.{Outcome, refused, given, refusal_at, no_refusal}
use Rattle.meaning.specs.Calls.{Left, left_by, Test, Tried, failed, passed, Chain, Called}
use Rattle.meaning.proofs.Unique.{One}

tried_once : {P : Type 0} {number : ℕ} {Next : Outcome (List ℕ) → Type 0} → One Next → One (Tried P number Next)
tried_once single o p (failed h) (failed k) = refl
tried_once single o p (failed h) (passed k _) = absurd (h k)
tried_once single o p (passed h _) (failed k) = absurd (k h)
tried_once single o p (passed _ h) (passed _ k) = single o p h k

chain_once : {I : Type 0} (Outcomes : I → Outcome (List ℕ) → Type 0) (input : I) (before : List ℕ) (tests : List (Test I)) → One (Outcomes input)
    → One (Chain tests Outcomes input before)
chain_once Outcomes input before [] single = single
chain_once Outcomes input before (t ∷ ts) single = tried_once (chain_once Outcomes input before ts single)

module _ {I : Type 0} {Outcomes : I → Outcome (List ℕ) → Type 0} {input : I} {before : List ℕ} where
  pub called_once : {tests : List (Test I)} → One (Outcomes input) → (l m : Left)
      → Called tests Outcomes input before l.refusal l.after
      → Called tests Outcomes input before m.refusal m.after
      → l ≡ m
  called_once {tests} single l m h k =
      sym h.leaves ∙ ap (left_by before) (chain_once Outcomes input before tests single h.outcome k.outcome h.chain k.chain) ∙ k.leaves

  -- A call is stated test by test: one that it passes is before the others, one that it does not pass ends it, and an outcome is
  -- left as it is behind all tests.
  pub pass : {t : Test I} {ts : List (Test I)} {r : Refusal} {after : List ℕ} → t.Holds input before → Called ts Outcomes input before r after
      → Called (t ∷ ts) Outcomes input before r after
  pass holds k = record { outcome = k.outcome; chain = passed holds k.chain; leaves = k.leaves }

  pub stop : {t : Test I} {ts : List (Test I)} → (t.Holds input before → ⊥) → Called (t ∷ ts) Outcomes input before (refusal_at t.number 0) before
  stop {t} fails = record { outcome = refused (refusal_at t.number 0); chain = failed fails; leaves = refl }

  pub written : {out after : List ℕ} → Outcomes input (given out) → after ≡ out → Called [] Outcomes input before no_refusal after
  written {out} right e = record { outcome = given out; chain = right; leaves = λ i. record { refusal = no_refusal; after = sym e i } }

  pub refusing : {r : Refusal} → Outcomes input (refused r) → Called [] Outcomes input before r before
  refusing {r} right = record { outcome = refused r; chain = right; leaves = refl }

  -- The end of the chain decides.
  pub called_by : {tests : List (Test I)} (o : Outcome (List ℕ)) → Chain tests Outcomes input before o
      → Called tests Outcomes input before (left_by before o).refusal (left_by before o).after
  called_by o chain = record { outcome = o; chain = chain; leaves = refl }

  -- A call that does not pass its first test is refused with its number, whatever the others say.
  pub first_decides : {t : Test I} {ts : List (Test I)} {r : Refusal} {after : List ℕ} → Called (t ∷ ts) Outcomes input before r after
      → (t.Holds input before → ⊥) → r ≡ refusal_at t.number 0
  first_decides {t} {ts} {r} {after} h fails = go h.outcome h.chain h.leaves
    where
      go : (o : Outcome (List ℕ)) → Chain (t ∷ ts) Outcomes input before o → left_by before o ≡ record { refusal = r; after = after }
          → r ≡ refusal_at t.number 0
      go o (failed _) e = sym (ap (λ (l : Left). l.refusal) e)
      go o (passed holds _) e = absurd (fails holds)

  -- Nothing is written on a refusal.
  pub untouched : {tests : List (Test I)} {r : Refusal} {after : List ℕ} → Called tests Outcomes input before r after → (r ≡ no_refusal → ⊥) → after ≡ before
  untouched {r = r} {after = after} h refusal = go h.outcome h.leaves
    where
      go : (o : Outcome (List ℕ)) → left_by before o ≡ record { refusal = r; after = after } → after ≡ before
      go (refused _) e = sym (ap (λ (l : Left). l.after) e)
      go (given _) e = absurd (refusal (sym (ap (λ (l : Left). l.refusal) e)))
