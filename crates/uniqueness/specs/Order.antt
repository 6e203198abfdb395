-- Linear orders with an equality of their own, as fractions have, and keys that are ordered as what they stand for.

-- How x stands to y.
pub data Compared {A : Type 0} (lt eq : A → A → Type 0) (x y : A) : Type 0 where
  less : lt x y → Compared lt eq x y
  same : eq x y → Compared lt eq x y
  more : lt y x → Compared lt eq x y

pub record Order {A : Type 0} (lt eq : A → A → Type 0) : Type 0 where
  pub irreflexive : (x : A) → lt x x → ⊥
  pub transitive : {x y z : A} → lt x y → lt y z → lt x z
  pub symmetric : {x y : A} → eq x y → eq y x
  pub less_same : {x y z : A} → lt x y → eq y z → lt x z
  pub same_less : {x y z : A} → eq x y → lt y z → lt x z
  pub compared : (x y : A) → Compared lt eq x y

-- `Keyed k x` says that k is a key of x.
pub record Keys {K A : Type 0} (ltᵏ eqᵏ : K → K → Type 0) (lt eq : A → A → Type 0) (Keyed : K → A → Type 0) : Type 0 where
  pub keeps_less : {k m : K} {x y : A} → Keyed k x → Keyed m y → ltᵏ k m → lt x y
  pub keeps_same : {k m : K} {x y : A} → Keyed k x → Keyed m y → eqᵏ k m → eq x y
