-- Every number is at most 6 and every place at most 2, so that a packed result has lost neither.
use mathlib.Core.Path.{◌≡◌, ap, subst}
use mathlib.Core.List.{List, [], ◌∷◌}
use Prim.Native.Nat.{ℕ, ◌≤◌}
use native.Mathlib.Omega.{arith}
use lib.Dec.{lit≤}
use Rattle.meaning.specs.Refusals.{Refusal}
use Rattle.patterns.specs.Format.{Format}
use Rattle.meaning.specs.Statement.{Outcome, refused, given, no_refusal, Verdict, wrong, Answered₁, first₁, Answered₂, first₂, second₂}
use Rattle.meaning.specs.Bytes.{ByteOrder, big_endian, JudgedBytes, bytes_five, JudgedDecBytes, bytes_four, dec_bytes_five, dec_bytes_six}
use Rattle.meaning.specs.Forms.{Form, bare_form, decorated_form, JudgedIn}
use Rattle.meaning.specs.Requests.{Asked, unary, binary, overlap, comparison, BareOutcome, DecoratedOutcome, BareRequest, DecoratedRequest, Codec}
use Rattle.meaning.specs.ExactRequests.{ExactOutcome, ExactRequest}
use Rattle.meaning.specs.Calls.{Left, left_by, Test, failed, passed, Chain, Called}
use Rattle.request_laws.specs.Calls.{Statement, Packed, Small}
use Rattle.request_laws.proofs.OneOutcome.{OneLeft}

-- Refusals by a test of a call, by its outcome, and of operands that are judged in turn.
abbrev Light : {I : Type 0} → List (Test I) → Type 0
Light [] = Unit {0}
Light (t ∷ ts) = (t.number ≤ 6) × Light ts

nothing_refused : Small no_refusal
nothing_refused = record { number≤6 = lit≤ tt; place≤2 = lit≤ tt }

chain_small : {I : Type 0} (Outcomes : I → Outcome (List ℕ) → Type 0) (input : I) (before : List ℕ) (tests : List (Test I)) → Light tests
    → ((r : Refusal) → Outcomes input (refused r) → Small r) → (r : Refusal) → Chain tests Outcomes input before (refused r) → Small r
chain_small Outcomes input before [] light small r c = small r c
chain_small Outcomes input before (t ∷ ts) light small r (failed _) = record { number≤6 = light.0; place≤2 = lit≤ tt }
chain_small Outcomes input before (t ∷ ts) light small r (passed _ c) = chain_small Outcomes input before ts light.1 small r c

called_small : {I : Type 0} {Outcomes : I → Outcome (List ℕ) → Type 0} {input : I} {before : List ℕ} {tests : List (Test I)} {r : Refusal} {after : List ℕ}
    → Light tests → ((r : Refusal) → Outcomes input (refused r) → Small r) → Called tests Outcomes input before r after → Small r
called_small {I} {Outcomes} {input} {before} {tests} light small h =
    subst Small (ap (λ (l : Left). l.refusal) h.leaves) (go h.outcome h.chain)
  where
    go : (o : Outcome (List ℕ)) → Chain tests Outcomes input before o → Small (left_by before o).refusal
    go (refused r) c = chain_small Outcomes input before tests light small r c
    go (given out) c = nothing_refused

module _ {A B : Type 0} {Judged : A → Verdict → Type 0} (bound : (x : A) (n : ℕ) → Judged x (wrong n) → n ≤ 6) where
  small₁ : {Right : A → B → Type 0} (x : A) {r : Refusal} → Answered₁ Judged Right x (refused r) → Small r
  small₁ x (first₁ {n} j) = record { number≤6 = bound x n j; place≤2 = lit≤ tt }

  small₂ : {Right : A → A → B → Type 0} (x y : A) {r : Refusal} → Answered₂ Judged Right x y (refused r) → Small r
  small₂ x y (first₂ {n} j) = record { number≤6 = bound x n j; place≤2 = lit≤ tt }
  small₂ x y (second₂ {n} _ k) = record { number≤6 = bound y n k; place≤2 = lit≤ tt }

module _ (F : Format) where
  bytes_small : (o : ByteOrder) (bs : List ℕ) (n : ℕ) → JudgedBytes F o bs (wrong n) → n ≤ 6
  bytes_small o bs n (bytes_five _) = lit≤ tt

  dec_bytes_small : (o : ByteOrder) (bs : List ℕ) (n : ℕ) → JudgedDecBytes F o bs (wrong n) → n ≤ 6
  dec_bytes_small o bs n (bytes_four _) = lit≤ tt
  dec_bytes_small o bs n (dec_bytes_five _ _ _) = lit≤ tt
  dec_bytes_small o bs n (dec_bytes_six _ _ _ _) = lit≤ tt

  in_small : (f : Form) (o : ByteOrder) (bs : List ℕ) (n : ℕ) → JudgedIn F f o bs (wrong n) → n ≤ 6
  in_small bare_form = bytes_small
  in_small decorated_form = dec_bytes_small

  bare_small : (q : Asked) (first second : List ℕ) (r : Refusal) → BareOutcome F q first second (refused r) → Small r
  bare_small (unary op) first second r = small₁ (bytes_small big_endian) first
  bare_small (binary op) first second r = small₂ (bytes_small big_endian) first second
  bare_small overlap first second r = small₂ (bytes_small big_endian) first second
  bare_small (comparison c) first second r = small₂ (bytes_small big_endian) first second

  exact_small : (q : Asked) (first second : List ℕ) (r : Refusal) → ExactOutcome F q first second (refused r) → Small r
  exact_small (unary op) first second r = small₁ (bytes_small big_endian) first
  exact_small (binary op) first second r = small₂ (bytes_small big_endian) first second
  exact_small overlap first second r = λ h. absurd h
  exact_small (comparison c) first second r = λ h. absurd h

  decorated_small : (q : Asked) (first second : List ℕ) (r : Refusal) → DecoratedOutcome F q first second (refused r) → Small r
  decorated_small (unary op) first second r = small₁ (dec_bytes_small big_endian) first
  decorated_small (binary op) first second r = small₂ (dec_bytes_small big_endian) first second
  decorated_small overlap first second r = small₂ (dec_bytes_small big_endian) first second
  decorated_small (comparison c) first second r = small₂ (dec_bytes_small big_endian) first second

  pub bare_request_small : {input before after : List ℕ} {r : Refusal} → BareRequest F input before r after → Small r
  bare_request_small = called_small (lit≤ tt, (lit≤ tt, (lit≤ tt, tt))) (λ r h. bare_small h.asked _ _ r h.outcome)

  pub exact_request_small : {input before after : List ℕ} {r : Refusal} → ExactRequest F input before r after → Small r
  exact_request_small = called_small (lit≤ tt, (lit≤ tt, (lit≤ tt, tt))) (λ r h. exact_small h.asked _ _ r h.outcome)

  pub decorated_request_small : {input before after : List ℕ} {r : Refusal} → DecoratedRequest F input before r after → Small r
  decorated_request_small = called_small (lit≤ tt, (lit≤ tt, (lit≤ tt, tt))) (λ r h. decorated_small h.asked _ _ r h.outcome)

  pub codec_small : (f : Form) (from to : ByteOrder) {input before after : List ℕ} {r : Refusal} → Codec F f from to input before r after → Small r
  codec_small f from to {input = input} = called_small (lit≤ tt, (lit≤ tt, tt)) (λ r. small₁ (in_small f from) input)

-- A packed result and the output after it are one as well.
pub packed_once : {S : Statement} → OneLeft S → (input before : List ℕ) {r s : ℕ} {after then : List ℕ}
    → Packed S input before r after → Packed S input before s then → (r ≡ s) × (after ≡ then)
packed_once once input before {after = after} {then = then} h k =
    let same = once input before (record { refusal = h.refusal; after = after }) (record { refusal = k.refusal; after = then }) h.called k.called in
    let numbers : h.refusal.number ≡ k.refusal.number = ap (λ (l : Left). l.refusal.number) same in
    let places : h.refusal.place ≡ k.refusal.place = ap (λ (l : Left). l.refusal.place) same in
    (omega (arith, h.is, k.is), ap (λ (l : Left). l.after) same)
