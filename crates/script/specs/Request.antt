-- What a line asks for, by its letter and its numbers: document 01, "The runner's lines".
use Rattle.std.specs.Prelude.{cond, ℕ, eqb, leb, Option, Some, None}
use Rattle.register.specs.Frame.{decoded_width}
use Rattle.script.specs.declared.request.Access.{Access}
use Rattle.script.specs.declared.request.Store.{Store}
use Rattle.script.specs.declared.request.Numbers.{Numbers}
use Rattle.script.specs.declared.request.Numbers.TheVariants.{Zero, One, Two, Three, Four, Other}
use Rattle.script.specs.declared.request.Request.{Request}
use Rattle.script.specs.declared.request.Request.TheVariants.{Setup, ReadDistributor, WriteDistributor, ReadCpuInterface, WriteCpuInterface, SetLevel, Pulse}
use Rattle.register.specs.declared.frame.AccessWidth.{AccessWidth}

-- one number more: no form has more than four
abbrev pub with_number : Numbers → ℕ → Numbers
with_number Zero n = One n
with_number (One a) n = Two a n
with_number (Two a b) n = Three a b n
with_number (Three a b c) n = Four a b c n
with_number (Four a b c d) n = Other
with_number Other n = Other

-- a form of two numbers, and what any other count of numbers is
abbrev pub of_two : {X : Type 0} → (ℕ → ℕ → X) → X → Numbers → X
of_two form other Zero = other
of_two form other (One a) = other
of_two form other (Two a b) = form a b
of_two form other (Three a b c) = other
of_two form other (Four a b c d) = other
of_two form other Other = other

-- of three
abbrev pub of_three : {X : Type 0} → (ℕ → ℕ → ℕ → X) → X → Numbers → X
of_three form other Zero = other
of_three form other (One a) = other
of_three form other (Two a b) = other
of_three form other (Three a b c) = form a b c
of_three form other (Four a b c d) = other
of_three form other Other = other

-- of four
abbrev pub of_four : {X : Type 0} → (ℕ → ℕ → ℕ → ℕ → X) → X → Numbers → X
of_four form other Zero = other
of_four form other (One a) = other
of_four form other (Two a b) = other
of_four form other (Three a b c) = other
of_four form other (Four a b c d) = form a b c d
of_four form other Other = other

-- `vcpu offset width`; "so does a width field other than 1, 2, 4 or 8"
abbrev pub access_at : ℕ → ℕ → Option AccessWidth → Option Access
access_at vcpu offset (Some width) = Some (record { vcpu = record { 0 = vcpu }; offset = offset; width = width })
access_at vcpu offset None = None

abbrev pub access_of : Numbers → Option Access
access_of = of_three (λ vcpu offset width. access_at vcpu offset (decoded_width width)) None

-- `vcpu offset width value`
abbrev pub store_at : ℕ → ℕ → Option AccessWidth → ℕ → Option Store
store_at vcpu offset (Some width) value = Some (record { vcpu = record { 0 = vcpu }; offset = offset; width = width; value = value })
store_at vcpu offset None value = None

abbrev pub store_of : Numbers → Option Store
store_of = of_four (λ vcpu offset width value. store_at vcpu offset (decoded_width width) value) None

abbrev pub as_read : (Access → Request) → Option Access → Option Request
as_read form (Some access) = Some (form access)
as_read form None = None

abbrev pub as_write : (Store → Request) → Option Store → Option Request
as_write form (Some store) = Some (form store)
as_write form None = None

-- `n count limit`
abbrev pub setup_for : Numbers → Option Request
setup_for = of_two (λ count limit. Some (Setup (record { count = count; limit = limit }))) None

-- `l vcpu id 0|1`; "so does .. a line level other than 0 or 1"
abbrev pub level_at : ℕ → ℕ → ℕ → Option Request
level_at vcpu number level =
    cond (leb level 1) (Some (SetLevel (record { vcpu = record { 0 = vcpu }; number = number; asserted = eqb level 1 }))) None

abbrev pub level_of : Numbers → Option Request
level_of = of_three level_at None

-- `p vcpu id`
abbrev pub pulse_of : Numbers → Option Request
pulse_of = of_two (λ vcpu number. Some (Pulse (record { vcpu = record { 0 = vcpu }; number = number }))) None

-- the letters n, d, D, c, C, l, p, by their ASCII codes
unfoldable pub request_for : ℕ → Numbers → Option Request
request_for letter numbers =
    cond (eqb letter 110) (setup_for numbers)
    (cond (eqb letter 100) (as_read ReadDistributor (access_of numbers))
    (cond (eqb letter 68) (as_write WriteDistributor (store_of numbers))
    (cond (eqb letter 99) (as_read ReadCpuInterface (access_of numbers))
    (cond (eqb letter 67) (as_write WriteCpuInterface (store_of numbers))
    (cond (eqb letter 108) (level_of numbers)
    (cond (eqb letter 112) (pulse_of numbers)
    None))))))
