-- EOIR, DIR and Deactivate: document 01, "CPU interface places"; IHI 0048, 4.4.5, "End of Interrupt Register", and 4.4.15, "Deactivate
-- Interrupt Register". What is retired is a number, 1023 for none.
use Rattle.std.specs.Prelude.{◌≡◌, Bool, false, not, cond, ◌&&◌, List, ℕ, ◌/◌, ◌%◌, eqb, ltb, Option, Some, None}
use Rattle.interrupt.specs.Types.{decoded}
use Rattle.interrupt.specs.Record.{deactivate_inflight, complete, set_owner}
use Rattle.interrupt.specs.declared.types.IntId.{IntId}
use Rattle.interrupt.specs.declared.record.InterruptRecord.{InterruptRecord}
use Rattle.state.specs.declared.layout.Shape.{Shape}
use Rattle.state.specs.declared.layout.InterfaceValue.TheVariants.{Control}
use Rattle.state.specs.Layout.{Room}
use Rattle.state.specs.Words.{record_at, changed, interface_at}
use Rattle.service.specs.Service.{stack_at, is_newest, dropped, Served}
use Rattle.interrupt.specs.declared.types.GicVcpuId.{GicVcpuId}

abbrev pub owned_by : ℕ → Option GicVcpuId → Bool
owned_by v None = false
owned_by v (Some u) = eqb u.0 v

-- "in flight and owned here"
abbrev pub served_here : ℕ → InterruptRecord → Bool
served_here v r = r.inflight && owned_by v r.owner

-- "Active but not in flight"
abbrev pub only_active : InterruptRecord → Bool
only_active r = r.active && not r.inflight

-- "`deactivate_inflight` with the record's pending bit .. The owner is then forgotten"
unfoldable pub retire : InterruptRecord → InterruptRecord
retire r = set_owner (deactivate_inflight r r.pending) None

-- "Else, or from the limit up, nothing"
unfoldable pub deactivated : Shape → ℕ → ℕ → List ℕ → List ℕ
deactivated shape v n s =
    cond (ltb n shape.limit && served_here v (record_at shape v n s)) (changed shape v n retire s)
    (cond (ltb n shape.limit && only_active (record_at shape v n s)) (changed shape v n complete s)
    s)

-- "the number is the retirement"; with `complete` "none retired"
unfoldable pub retired : Shape → ℕ → ℕ → List ℕ → ℕ
retired shape v n s = cond (ltb n shape.limit && served_here v (record_at shape v n s)) n 1023

-- "DIR deactivates in either mode and pops nothing". "EOIR uses the low 10 bits", and so does DIR
abbrev pub dir_state : Shape → ℕ → Option IntId → List ℕ → List ℕ
dir_state shape v None s = s
dir_state shape v (Some n) s = deactivated shape v n.0 s

abbrev pub dir_retired : Shape → ℕ → Option IntId → List ℕ → ℕ
dir_retired shape v None s = 1023
dir_retired shape v (Some n) s = retired shape v n.0 s

abbrev pub eoi_mode : Shape → ℕ → List ℕ → Bool
eoi_mode shape v s = eqb (interface_at shape v Control s / 512 % 2) 1

-- "It pops the stack only if that number is newest. If it popped and EOI mode is off, it deactivates"
abbrev pub deactivates : Shape → ℕ → ℕ → List ℕ → Bool
deactivates shape v n s = is_newest n (stack_at shape v s) && not (eoi_mode shape v s)

unfoldable pub ended : Shape → ℕ → ℕ → List ℕ → List ℕ
ended shape v n s = cond (deactivates shape v n s) (deactivated shape v n (dropped shape v n s)) (dropped shape v n s)

unfoldable pub end_retired : Shape → ℕ → ℕ → List ℕ → ℕ
end_retired shape v n s = cond (deactivates shape v n s) (retired shape v n (dropped shape v n s)) 1023

-- "a number that does not decode ends the write there (1020 to 1023)"
abbrev pub eoi_state : Shape → ℕ → Option IntId → List ℕ → List ℕ
eoi_state shape v None s = s
eoi_state shape v (Some n) s = ended shape v n.0 s

abbrev pub eoi_retired : Shape → ℕ → Option IntId → List ℕ → ℕ
eoi_retired shape v None s = 1023
eoi_retired shape v (Some n) s = end_retired shape v n.0 s

abbrev pub decoded_eoi : ℕ → Option IntId
decoded_eoi value = decoded (value % 1024)

-- words that hold a state; the vCPU is looked up only if the number decodes
pub record Ending (shape : Shape) (v : ℕ) (number : Option IntId) (s : List ℕ) : Type 0 where
  pub state : Room shape s
  pub served : (n : IntId) → number ≡ Some n → Served shape v s
