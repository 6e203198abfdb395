-- An interval has one spelling, in either form: two intervals are tidied as the same exactly if they are the same value.
use mathlib.Core.Path.{◌≡◌, refl, sym, ◌∙◌, ap, subst⁻¹}
use Rattle.patterns.specs.Format.{Format}
use Rattle.meaning.specs.Sets.{SameSet}
use Rattle.meaning.specs.Pairs.{Pair, NaNs, set_of}
use Rattle.meaning.specs.Statement.{DecPair, nai}
use Rattle.meaning.specs.Bytes.{Tidied, TidiedDec, tidied_nai, tidied_interval}
use Rattle.meaning.specs.Forms.{Form, bare_form, decorated_form, Value, TidiedAs, SameValue, same_interval, both_nai}
use Rattle.meaning.proofs.Unique.{canonical_unique}
use Rattle.meaning.proofs.KindLaws.{nai_nans, bare_not_nans}

pub dec_pair : {z w : DecPair} → z.pair ≡ w.pair → z.decoration ≡ w.decoration → z ≡ w
dec_pair p d = λ i. record { pair = p i; decoration = d i }

module _ (F : Format) where
  same_tidied : {p q s t : Pair} → SameSet (set_of F p) (set_of F q) → Tidied F p s → Tidied F q t → s ≡ t
  same_tidied {s = s} {t = t} e h k =
      canonical_unique F s t h.canonical k.canonical
      (λ x m. k.same.0 x (e.0 x (h.same.1 x m)), λ x m. h.same.0 x (e.1 x (k.same.1 x m)))

  tidied_same : {p q s t : Pair} → s ≡ t → Tidied F p s → Tidied F q t → SameSet (set_of F p) (set_of F q)
  tidied_same {q = q} e h k =
      let l = subst⁻¹ (Tidied F q) e k in
      (λ x m. l.same.1 x (h.same.0 x m), λ x m. h.same.1 x (l.same.0 x m))

  nai_tidied : {x z : DecPair} → NaNs F x.pair → TidiedDec F x z → z ≡ nai F
  nai_tidied n (tidied_nai m) = refl
  nai_tidied n (tidied_interval m t d) = absurd (m n)

  interval_tidied : {x z : DecPair} → (NaNs F x.pair → ⊥) → TidiedDec F x z → Tidied F x.pair z.pair × (z.decoration ≡ x.decoration)
  interval_tidied n (tidied_nai m) = absurd (n m)
  interval_tidied n (tidied_interval m t d) = (t, d)

  same_dec_tidied : {x y v w : DecPair} → SameValue F decorated_form x y → TidiedDec F x v → TidiedDec F y w → v ≡ w
  same_dec_tidied (same_interval n m s d) h k =
      let t = interval_tidied n h in
      let u = interval_tidied m k in
      dec_pair (same_tidied s t.0 u.0) (t.1 ∙ d ∙ sym u.1)
  same_dec_tidied (both_nai n m) h k = nai_tidied n h ∙ sym (nai_tidied m k)

  -- What a tidied interval is, NaI is not.
  not_nai_lem : {p q : Pair} → Tidied F p q → q ≡ (nai F).pair → ⊥
  not_nai_lem t e = bare_not_nans F t.canonical.bare (subst⁻¹ (NaNs F) e (nai_nans F))

  dec_tidied_same : {x y v w : DecPair} → v ≡ w → TidiedDec F x v → TidiedDec F y w → SameValue F decorated_form x y
  dec_tidied_same e (tidied_nai n) (tidied_nai m) = both_nai n m
  dec_tidied_same e (tidied_nai n) (tidied_interval m t d) = absurd (not_nai_lem t (ap (λ (z : DecPair). z.pair) (sym e)))
  dec_tidied_same e (tidied_interval n t d) (tidied_nai m) = absurd (not_nai_lem t (ap (λ (z : DecPair). z.pair) e))
  dec_tidied_same e (tidied_interval n s c) (tidied_interval m t d) =
      same_interval n m (tidied_same (ap (λ (z : DecPair). z.pair) e) s t) (sym c ∙ ap (λ (z : DecPair). z.decoration) e ∙ d)

  -- The same value has one spelling, and one spelling is that of one value.
  pub same_spelling : (f : Form) {x y v w : Value f} → TidiedAs F f x v → TidiedAs F f y w → SameValue F f x y → v ≡ w
  same_spelling bare_form h k (same_interval _ _ s _) = same_tidied s h k
  same_spelling bare_form h k (both_nai n _) = absurd n
  same_spelling decorated_form h k s = same_dec_tidied s h k

  pub spelling_same : (f : Form) {x y v w : Value f} → TidiedAs F f x v → TidiedAs F f y w → v ≡ w → SameValue F f x y
  spelling_same bare_form h k e = same_interval (λ n. n) (λ n. n) (tidied_same e h k) tt
  spelling_same decorated_form h k e = dec_tidied_same e h k

  -- An interval is tidied in one way.
  pub tidied_once : (p q r : Pair) → Tidied F p q → Tidied F p r → q ≡ r
  tidied_once p q r = same_tidied (λ x m. m, λ x m. m)

  pub tidied_dec_once : (x z w : DecPair) → TidiedDec F x z → TidiedDec F x w → z ≡ w
  tidied_dec_once x z w (tidied_nai n) k = sym (nai_tidied n k)
  tidied_dec_once x z w (tidied_interval n t d) k =
      let u = interval_tidied n k in
      dec_pair (tidied_once x.pair z.pair w.pair t u.0) (d ∙ sym u.1)

  pub tidied_as_once : (f : Form) (x z w : Value f) → TidiedAs F f x z → TidiedAs F f x w → z ≡ w
  tidied_as_once bare_form x z w = tidied_once x z w
  tidied_as_once decorated_form x z w = tidied_dec_once x z w
