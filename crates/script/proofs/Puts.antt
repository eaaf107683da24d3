-- Text after text is one text, and the decimal digits of a number: how many, one by one, and read back. Assumes nothing.
use mathlib.Core.Path.{◌≡◌, refl, ap, ◌∙◌}
use mathlib.Core.Bool.{Bool, true, false, cond, ◌&&◌}
use mathlib.Core.List.{List, [], ◌∷◌, ◌++◌}
use Prim.Native.Nat.{ℕ, zero, suc, ◌+◌, ◌-◌, ◌*◌, ◌/◌, ◌%◌, ◌^◌, ◌≤◌, ◌<◌}
use native.Mathlib.Nat.{add-zero, pow-suc}
use native.Mathlib.Omega.{arith}
use lib.Dec.{ltb}
use lib.ListN.{length, set, length-append}
use lib.Seq.{sets, length-sets}
use borrow.Author.Tests.{lt-ltb, le-ltb, le-leb, ltb-true, ltb-false}
use Rattle.std.specs.Prelude.{Some}
use Rattle.script.specs.Line.{is_digit, digits_only, value_after, is_number, field_number}
use Rattle.script.specs.declared.text.Writer.{Writer}
use Rattle.script.specs.Text.{decimal_within, decimal, PutText, Puts}

sets_append : (x y s : List ℕ) (i : ℕ) → sets (sets s i x) (i + length x) y ≡ sets s i (x ++ y)
sets_append [] y s i = rw add-zero
sets_append (a ∷ x) y s i = let e : i + suc (length x) ≡ suc i + length x = omega arith in rw e (sets_append x y (set s i a) (suc i))

pub put_length : {x s s' : List ℕ} {at end : ℕ} → PutText x at s s' end → length s' ≡ length s
put_length {x} {s} {s'} {at} p = ap length p.bytes ∙ length-sets s at x

-- and ends in the bytes
pub put_inside : {x s s' : List ℕ} {at end : ℕ} → PutText x at s s' end → end ≤ length s
put_inside p = let a = p.past in let b = p.fits in omega arith

pub put_then : {x y s s' s'' : List ℕ} {at end end' : ℕ} → PutText x at s s' end → PutText y end s' s'' end' → PutText (x ++ y) at s s'' end'
put_then {x} {y} {s} {s'} {s''} {at} {end} {end'} p q = record {
  fits = let a = p.past in let b = q.fits in let same = put_length p in rw length-append (omega arith);
  bytes = q.bytes ∙ rw (p.bytes, p.past) (sets_append x y s at);
  past = let a = p.past in let b = q.past in rw length-append (omega arith);
}

pub puts_then : {x y : List ℕ} {w w' w'' : Writer} → Puts x w w' → Puts y w' w'' → Puts (x ++ y) w w''
puts_then p q = record { put = put_then p.put q.put; same_reference = q.same_reference ∙ p.same_reference }

pub put_one : (b : ℕ) (s : List ℕ) (at : ℕ) → at < length s → PutText (b ∷ []) at s (set s at b) (at + 1)
put_one b s at h = record { fits = omega arith; bytes = refl; past = refl }

-- a tenth of a number has a digit less
tenth : (n k : ℕ) → n < 10 ^ suc k → n / 10 < 10 ^ k
tenth n k h = let e : 10 ^ suc k ≡ 10 ^ k * 10 = pow-suc 10 k in omega arith

-- room for more digits changes nothing
more_room : (k n : ℕ) → n < 10 ^ suc k → decimal_within (suc k) n ≡ decimal_within (suc (suc k)) n
unfolding decimal_within
more_room zero n h = let small : n < 10 = h in simp (lt-ltb n 10 small)
more_room (suc k) n h = go (ltb n 10) (more_room k (n / 10) (tenth n (suc k) h))
  where
    go : (b : Bool) → decimal_within (suc k) (n / 10) ≡ decimal_within (suc (suc k)) (n / 10)
        → cond b ((48 + n) ∷ []) (decimal_within (suc k) (n / 10) ++ (48 + n % 10) ∷ []) ≡ cond b ((48 + n) ∷ []) (decimal_within (suc (suc k)) (n / 10) ++ (48 + n % 10) ∷ [])
    go true same = refl
    go false same = rw same

pub decimal_short : (n : ℕ) → n < 10 → decimal n ≡ (48 + n) ∷ []
unfolding decimal decimal_within
decimal_short n h = simp (lt-ltb n 10 h)

last_digit : (k n : ℕ) → 10 ≤ n → decimal_within (suc k) n ≡ decimal_within k (n / 10) ++ (48 + n % 10) ∷ []
unfolding decimal_within
last_digit k n h = simp (le-ltb n 10 h)

pub decimal_long : (n : ℕ) → 10 ≤ n → n < 2 ^ 64 → decimal n ≡ decimal (n / 10) ++ (48 + n % 10) ∷ []
unfolding decimal
decimal_long n h small = last_digit 19 n h ∙ ap (λ (x : List ℕ). x ++ (48 + n % 10) ∷ []) (more_room 18 (n / 10) (omega arith))

-- a number below 10^k has at most k digits
few_digits : (k j n : ℕ) → n < 10 ^ suc j → length (decimal_within k n) ≤ suc j
unfolding decimal_within
few_digits zero j n h = omega arith
few_digits (suc k) j n h = go j (ltb n 10) refl h (few_digits k)
  where
    go : (j : ℕ) (b : Bool) → ltb n 10 ≡ b → n < 10 ^ suc j → ((j n : ℕ) → n < 10 ^ suc j → length (decimal_within k n) ≤ suc j)
        → length (cond b ((48 + n) ∷ []) (decimal_within k (n / 10) ++ (48 + n % 10) ∷ [])) ≤ suc j
    go j true p h shorter = omega arith
    go zero false p h shorter = let big = ltb-false n 10 p in let small : n < 10 = h in omega arith
    go (suc j) false p h shorter = let rest = shorter j (n / 10) (tenth n (suc j) h) in rw length-append (omega arith)

pub decimal_byte : (n : ℕ) → n < 2 ^ 8 → length (decimal n) ≤ 3
unfolding decimal
decimal_byte n h = few_digits 20 2 n (omega arith)

pub decimal_word : (n : ℕ) → n < 2 ^ 32 → length (decimal n) ≤ 10
unfolding decimal
decimal_word n h = few_digits 20 9 n (omega arith)

-- where a number with a byte after it ends
pub byte_field : (n mark : ℕ) {at end : ℕ} {s s' : List ℕ} → PutText (decimal n ++ mark ∷ []) at s s' end → n < 2 ^ 8 → end ≤ at + 4
byte_field n mark p h = let few = decimal_byte n h in let past = p.past in let one = length-append (decimal n) (mark ∷ []) in omega arith

pub word_field : (n mark : ℕ) {at end : ℕ} {s s' : List ℕ} → PutText (decimal n ++ mark ∷ []) at s s' end → n < 2 ^ 32 → end ≤ at + 11
word_field n mark p h = let few = decimal_word n h in let past = p.past in let one = length-append (decimal n) (mark ∷ []) in omega arith

-- one digit more
value_snoc : (v d : ℕ) (f : List ℕ) → value_after v (f ++ d ∷ []) ≡ 10 * value_after v f + (d - 48)
unfolding value_after
value_snoc v d [] = refl
value_snoc v d (b ∷ f) = value_snoc (10 * v + (b - 48)) d f

digits_snoc : (d : ℕ) (f : List ℕ) → is_digit d ≡ true → digits_only f ≡ true → digits_only (f ++ d ∷ []) ≡ true
unfolding digits_only
digits_snoc d [] p q = simp p
digits_snoc d (b ∷ f) p q = go (is_digit b) q (digits_snoc d f p)
  where
    go : (x : Bool) → (x && digits_only f) ≡ true → (digits_only f ≡ true → digits_only (f ++ d ∷ []) ≡ true) → (x && digits_only (f ++ d ∷ [])) ≡ true
    go true h rest = rest h
    go false h rest = h

a_digit : (d : ℕ) → d < 10 → is_digit (48 + d) ≡ true
a_digit d h = simp (le-leb 48 (48 + d) (omega arith), le-leb (48 + d) 57 (omega arith))

-- what the text of a number says
record Says (n : ℕ) (text : List ℕ) : Type 0 where
  value : value_after 0 text ≡ n
  digits : digits_only text ≡ true
  some_digit : 0 < length text

says_digit : (n : ℕ) → n < 10 → Says n ((48 + n) ∷ [])
unfolding value_after digits_only
says_digit n h = record { value = omega arith; digits = simp (a_digit n h); some_digit = omega arith }

says_more : (n : ℕ) (text : List ℕ) → Says (n / 10) text → Says n (text ++ (48 + n % 10) ∷ [])
says_more n text rest = record {
  value = value_snoc 0 (48 + n % 10) text ∙ rw rest.value (omega arith);
  digits = digits_snoc (48 + n % 10) text (a_digit (n % 10) (omega arith)) rest.digits;
  some_digit = rw length-append (omega arith);
}

says : (k n : ℕ) → n < 10 ^ suc k → Says n (decimal_within (suc k) n)
unfolding decimal_within
says zero n h = let small : n < 10 = h in simp (lt-ltb n 10 small) (says_digit n small)
says (suc k) n h = go (ltb n 10) refl (says k (n / 10) (tenth n (suc k) h))
  where
    go : (b : Bool) → ltb n 10 ≡ b → Says (n / 10) (decimal_within (suc k) (n / 10)) → Says n (cond b ((48 + n) ∷ []) (decimal_within (suc k) (n / 10) ++ (48 + n % 10) ∷ []))
    go true p rest = says_digit n (ltb-true n 10 p)
    go false p rest = says_more n (decimal_within (suc k) (n / 10)) rest

pub decimal_digits : (n : ℕ) → n < 2 ^ 64 → digits_only (decimal n) ≡ true
unfolding decimal
decimal_digits n h = (says 19 n (omega arith)).digits

-- the text of a number is a number, the same
pub decimal_read_back : (n : ℕ) → n < 2 ^ 64 → field_number (decimal n) ≡ Some n
unfolding field_number is_number decimal
decimal_read_back n h = let it = says 19 n (omega arith) in simp (lt-ltb 0 (length (decimal_within 20 n)) it.some_digit, it.digits, it.value, lt-ltb n (2 ^ 64) h)
