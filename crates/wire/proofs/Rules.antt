-- Rules in order: a law for a rule that is kept and one for a rule that is broken, over any answer. Assumes nothing.
use Prim.Native.Nat.{ℕ, ◌≤◌}
use mathlib.Core.Path.{◌≡◌, refl, sym, ap, ◌∙◌}
use mathlib.Core.List.{List, [], ◌∷◌}
use mathlib.Core.Bool.{Bool, true, false, not}
use native.Mathlib.Omega.{arith}
use lib.Dec.{eqb}
use borrow.Author.Tests.{ltb-false, lt-ltb, le-ltb, eq-eqb, ne_eqb, eqb-true, not-false}
use Rattle.wire.specs.Answers.{Answer, done, refused, and_then, Rule, under, over, other, breaks, number_of, judged, Keeps, Breaks, KeepsAll, within_limit}

pub never : {A B : Type 0} {x : A} {k : ℕ} → refused k ≡ done x → B
never h = absurd (let z : ◌≡◌ {A = ℕ} 0 1 = cc in omega arith)

pub done_same : {A : Type 0} {x y : A} → done x ≡ done y → x ≡ y
done_same h = cc

-- ---- a rule is broken, or what it asks holds

kept : (r : Rule) → breaks r ≡ false → Keeps r
unfolding breaks
kept (under x a e) h = ltb-false x a h
kept (over x a e) h = ltb-false a x h
kept (other x a e) h = eqb-true x a (not-false (eqb x a) h)

keeps : (r : Rule) → Keeps r → breaks r ≡ false
unfolding breaks
keeps (under x a e) h = le-ltb x a h
keeps (over x a e) h = le-ltb a x h
keeps (other x a e) h = ap not (eq-eqb x a h)

broken : (r : Rule) → Breaks r → breaks r ≡ true
unfolding breaks
broken (under x a e) h = lt-ltb x a h
broken (over x a e) h = lt-ltb a x h
broken (other x a e) h = ap not (ne_eqb x a h)

module _ {A : Type 0} (rs : List Rule) (y : Answer A) (r : Rule) where
  bad : breaks r ≡ true → judged (r ∷ rs) y ≡ refused (number_of r)
  unfolding judged
  bad p = simp (p, judged)

  next : breaks r ≡ false → judged (r ∷ rs) y ≡ judged rs y
  unfolding judged
  next p = simp (p, judged)

  pub rule_kept : (z : Answer A) → Keeps r → z ≡ judged rs y → z ≡ judged (r ∷ rs) y
  rule_kept z k h = h ∙ sym (next (keeps r k))

  pub rule_broken : (z : Answer A) → Breaks r → z ≡ refused (number_of r) → z ≡ judged (r ∷ rs) y
  rule_broken z b h = h ∙ sym (bad (broken r b))

pub none_left : {A : Type 0} (y z : Answer A) → z ≡ y → z ≡ judged [] y
unfolding judged
none_left y z h = h

pub ruleset rules = (rule_kept, rule_broken, none_left)

-- forwards: where all rules are kept the answer is given
pub all_keep : {A : Type 0} (rs : List Rule) (y : Answer A) → KeepsAll rs → judged rs y ≡ y
unfolding judged
all_keep [] y k = refl
all_keep (r ∷ rs) y k = next rs y r (keeps r k.0) ∙ all_keep rs y k.1

-- backwards: an answer that is no refusal kept each rule
pub all_were : {A : Type 0} (rs : List Rule) (y : Answer A) (x : A) → judged rs y ≡ done x → KeepsAll rs × (y ≡ done x)
unfolding judged
all_were [] y x h = (tt, h)
all_were (r ∷ rs) y x h = go (breaks r) refl (λ (g : judged rs y ≡ done x). all_were rs y x g)
  where
    go : (t : Bool) → breaks r ≡ t → (judged rs y ≡ done x → KeepsAll rs × (y ≡ done x)) → KeepsAll (r ∷ rs) × (y ≡ done x)
    go true p f = never (sym (bad rs y r p) ∙ h)
    go false p f = let g = f (sym (next rs y r p) ∙ h) in ((kept r p, g.0), g.1)

-- a size within a limit, and one that was
pub within_is : (most n : ℕ) → n ≤ most → within_limit most n ≡ done n
within_is most n h = all_keep (over n most 3 ∷ []) (done n) (h, tt)

pub within_was : (most n size : ℕ) → within_limit most n ≡ done size → (n ≤ most) × (n ≡ size)
within_was most n size h =
    let w = all_were (over n most 3 ∷ []) (done n) size h in
    (w.0.0, done_same w.1)

-- a refusal by the rules does not depend on what they guard
pub same_refusal : {A B : Type 0} (rs : List Rule) (x : A) (y : Answer B) (k : ℕ) → judged rs (done x) ≡ refused k → judged rs y ≡ refused k
unfolding judged
same_refusal [] x y k h = never (sym h)
same_refusal (r ∷ rs) x y k h = go (breaks r) refl (λ (g : judged rs (done x) ≡ refused k). same_refusal rs x y k g)
  where
    go : (t : Bool) → breaks r ≡ t → (judged rs (done x) ≡ refused k → judged rs y ≡ refused k) → judged (r ∷ rs) y ≡ refused k
    go true p f =
        let g : refused (number_of r) ≡ refused k = sym (bad rs (done x) r p) ∙ h in
        let e : number_of r ≡ k = cc in
        bad rs y r p ∙ ap refused e
    go false p f = next rs y r p ∙ f (sym (next rs (done x) r p) ∙ h)

-- ---- one question after another
module _ {A B : Type 0} (x : Answer A) (f : A → Answer B) where
  pub then_stops : (k : ℕ) → x ≡ refused k → refused k ≡ and_then x f
  then_stops k h = rw h

  pub then_goes : (v : A) (z : Answer B) → x ≡ done v → z ≡ f v → z ≡ and_then x f
  then_goes v z h e = e ∙ rw h

  pub then_done : (v : A) → x ≡ done v → and_then x f ≡ f v
  then_done v h = rw h

-- backwards: an answer that is no refusal had one before it
pub record Went {A B : Type 0} (x : Answer A) (f : A → Answer B) (y : B) : Type 0 where
  pub found : A
  pub is : x ≡ done found
  pub then : f found ≡ done y

pub then_were : {A B : Type 0} (x : Answer A) (f : A → Answer B) (y : B) → and_then x f ≡ done y → Went x f y
then_were (done v) f y h = record { found = v; is = refl; then = h }
then_were (refused k) f y h = never h
