-- The results of calls that read, one after another.
use Rattle.std.proofs.Common.{◌≡◌, Bool, true, false, cond, Result, Ok, Err, refl, ap, subst}
use Rattle.common_definitions.proofs.Proved.{guarded}
use Rattle.image_text.specs.declared.fault.LoadFault.{LoadFault}
use Rattle.image_text.specs.declared.fault.LoadFault.TheVariants.{Stream, Memory}
use Rattle.image_text.specs.Loading.{LoadFails}
use Rattle.common_definitions.specs.Readings.{◌>>=◌}

-- a fault of the first call is one of both
pub fails_then : {X Y : Type 0} (wanted may : Type 0) (fault : LoadFault) (read : Result X LoadFault) (next : X → Result Y LoadFault) → (wanted → may) → LoadFails wanted fault read → LoadFails may fault (read >>= next)
fails_then wanted may Stream read next up h = tt
fails_then wanted may Memory read next up h = up h
fails_then wanted may fault read next up h = ap (λ r. r >>= next) h

-- what succeeds has succeeded in each part
pub bind_ok : {X Y : Type 0} (read : Result X LoadFault) (next : X → Result Y LoadFault) (y : Y) → (read >>= next) ≡ Ok y → (x : X) × (read ≡ Ok x) × (next x ≡ Ok y)
bind_ok (Ok x) next y e = (x, refl, e)
bind_ok (Err first) next y e = absurd cc

pub ok_is : {X : Type 0} (x y : X) → (let r : Result X LoadFault = Ok x in r) ≡ Ok y → x ≡ y
ok_is x y e = cc

pub is_this : {X : Type 0} (x fault : LoadFault) → (let r : Result X LoadFault = Err x in r) ≡ Err fault → x ≡ fault
is_this x fault e = cc

-- what fails has failed in the first part, or in the next behind what the first gave
pub bind_fails : {X Y : Type 0} (P : LoadFault → Type 0) (read : Result X LoadFault) (next : X → Result Y LoadFault) (fault : LoadFault) → (read >>= next) ≡ Err fault
    → ((first : LoadFault) → read ≡ Err first → P first) → ((x : X) → read ≡ Ok x → next x ≡ Err fault → P fault) → P fault
bind_fails P (Ok x) next fault e first later = later x refl e
bind_fails {Y = Y} P (Err found) next fault e first later = subst P (is_this {X = Y} found fault e) (first found refl)

-- what is only where a test holds
pub chosen : {X : Type 0} (test : Bool) (x y : X) (first : LoadFault) → cond test (Ok x) (Err first) ≡ Ok y → (test ≡ true) × (x ≡ y)
chosen test x y first e = let p = guarded test (Ok x) first y e in (p.0, ok_is x y p.1)

-- and what comes of it where the test doesn't hold
pub wrong : {X : Type 0} (test : Bool) (x : X) (first fault : LoadFault) → cond test (Ok x) (Err first) ≡ Err fault → (test ≡ false) × (first ≡ fault)
wrong true x first fault e = absurd cc
wrong {X} false x first fault e = (refl, is_this {X = X} first fault e)
