-- Over any linear order, exactly one of the thirteen conditions on the ends of [a, b] and [c, d] holds.
use mathlib.Core.Path.{◌≡◌, refl, sym, ◌∙◌}
use Rattle.meaning.specs.Overlap.{State, both_empty, first_empty, second_empty, before, meets, overlaps, starts, contained_by, finishes, equals, finished_by, contains, started_by, overlapped_by, met_by, after, Conditions}
use Rattle.uniqueness.specs.Order.{Compared, less, same, more, Order}

-- How one end stands to another.
data Standing : Type 0 where
  below level above : Standing

-- The state by how b stands to d, a to c, b to c, and a to d.
pick : Standing → Standing → Standing → Standing → State
pick below below below ad = before
pick below below level ad = meets
pick below below above ad = overlaps
pick below level bc ad = starts
pick below above bc ad = contained_by
pick level below bc ad = finished_by
pick level level bc ad = equals
pick level above bc ad = finishes
pick above below bc ad = contains
pick above level bc ad = started_by
pick above above bc below = overlapped_by
pick above above bc level = met_by
pick above above bc above = after

standing : {A : Type 0} {lt eq : A → A → Type 0} {x y : A} → Compared lt eq x y → Standing
standing (less h) = below
standing (same h) = level
standing (more h) = above

found : {A : Type 0} {lt eq : A → A → Type 0} {a b c d : A}
    → Compared lt eq b d → Compared lt eq a c → Compared lt eq b c → Compared lt eq a d → State
found bd ac bc ad = pick (standing bd) (standing ac) (standing bc) (standing ad)

module _ {A : Type 0} {lt eq : A → A → Type 0} (order : Order lt eq) where
  open order use {irreflexive, transitive, symmetric, less_same, same_less, compared}

  asymmetric : {x y : A} → lt x y → lt y x → ⊥
  asymmetric {x} h k = irreflexive x (transitive h k)

  distinct : {x y : A} → lt x y → eq x y → ⊥
  distinct {x} h k = irreflexive x (less_same h (symmetric k))

  -- A comparison that holds is the one that was made.
  is_below : {x y : A} (made : Compared lt eq x y) → lt x y → standing made ≡ below
  unfolding standing
  is_below (less k) h = refl
  is_below (same k) h = absurd (distinct h k)
  is_below (more k) h = absurd (asymmetric h k)

  is_level : {x y : A} (made : Compared lt eq x y) → eq x y → standing made ≡ level
  unfolding standing
  is_level (less k) h = absurd (distinct k h)
  is_level (same k) h = refl
  is_level (more k) h = absurd (distinct k (symmetric h))

  is_above : {x y : A} (made : Compared lt eq x y) → lt y x → standing made ≡ above
  unfolding standing
  is_above (less k) h = absurd (asymmetric k h)
  is_above (same k) h = absurd (distinct h (symmetric k))
  is_above (more k) h = refl

  -- x ≤ y says that y is not less than x.
  le_less : {x y z : A} → (lt y x → ⊥) → lt y z → lt x z
  le_less {x} {y} {z} h k = go (compared x y)
    where
      go : Compared lt eq x y → lt x z
      go (less l) = transitive l k
      go (same l) = same_less l k
      go (more l) = absurd (h l)

  less_le : {x y z : A} → lt x y → (lt z y → ⊥) → lt x z
  less_le {x} {y} {z} h k = go (compared y z)
    where
      go : Compared lt eq y z → lt x z
      go (less l) = transitive h l
      go (same l) = less_same h l
      go (more l) = absurd (k l)

  -- The state that is found holds.
  picked : {a b c d : A} (bd : Compared lt eq b d) (ac : Compared lt eq a c) (bc : Compared lt eq b c) (ad : Compared lt eq a d)
      → Conditions lt eq (found bd ac bc ad) a b c d
  unfolding found pick standing
  picked (less bd) (less ac) (less bc) ad = bc
  picked (less bd) (less ac) (same bc) ad = (less_same ac (symmetric bc), bc, same_less (symmetric bc) bd)
  picked (less bd) (less ac) (more cb) ad = (ac, cb, bd)
  picked (less bd) (same ac) bc ad = (ac, bd)
  picked (less bd) (more ca) bc ad = (ca, bd)
  picked (same bd) (less ac) bc ad = (ac, bd)
  picked (same bd) (same ac) bc ad = (ac, bd)
  picked (same bd) (more ca) bc ad = (ca, bd)
  picked (more db) (less ac) bc ad = (ac, db)
  picked (more db) (same ac) bc ad = (ac, db)
  picked (more db) (more ca) bc (less ad) = (ca, ad, db)
  picked (more db) (more ca) bc (same ad) = (less_same ca ad, ad, same_less ad db)
  picked (more db) (more ca) bc (more da) = da

  -- Nothing is left out.
  pub complete : (a b c d : A) → (s : State) × Conditions lt eq s a b c d
  complete a b c d =
      let bd = compared b d in
      let ac = compared a c in
      let bc = compared b c in
      let ad = compared a d in
      (found bd ac bc ad, picked bd ac bc ad)

  -- The ends are in order: a ≤ b and c ≤ d.
  module _ {a b c d : A} (ab : lt b a → ⊥) (cd : lt d c → ⊥) where
    module _ (bd : Compared lt eq b d) (ac : Compared lt eq a c) (bc : Compared lt eq b c) (ad : Compared lt eq a d) where
      -- A state that holds is the one that is found.
      picks : (s : State) → Conditions lt eq s a b c d → found bd ac bc ad ≡ s
      unfolding found pick
      picks both_empty h = absurd h
      picks first_empty h = absurd h
      picks second_empty h = absurd h
      picks before h = rw (is_below bd (less_le h cd), is_below ac (le_less ab h), is_below bc h)
      picks meets h = rw (is_below bd (same_less h.1 h.2), is_below ac (less_same h.0 h.1), is_level bc h.1)
      picks overlaps h = rw (is_below bd h.2, is_below ac h.0, is_above bc h.1)
      picks starts h = rw (is_below bd h.1, is_level ac h.0)
      picks contained_by h = rw (is_below bd h.1, is_above ac h.0)
      picks finishes h = rw (is_level bd h.1, is_above ac h.0)
      picks equals h = rw (is_level bd h.1, is_level ac h.0)
      picks finished_by h = rw (is_level bd h.1, is_below ac h.0)
      picks contains h = rw (is_above bd h.1, is_below ac h.0)
      picks started_by h = rw (is_above bd h.1, is_level ac h.0)
      picks overlapped_by h = rw (is_above bd h.2, is_above ac h.0, is_below ad h.1)
      picks met_by h =
          let da = symmetric h.1 in
          rw (is_above bd (same_less da h.2), is_above ac (less_same h.0 da), is_level ad h.1)
      picks after h = rw (is_above bd (less_le h ab), is_above ac (le_less cd h), is_above ad h)

    -- The conditions exclude each other.
    pub exclusive : {s t : State} → Conditions lt eq s a b c d → Conditions lt eq t a b c d → s ≡ t
    exclusive {s} {t} h k =
        let which = picks (compared b d) (compared a c) (compared b c) (compared a d) in
        sym (which s h) ∙ which t k
