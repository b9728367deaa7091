-- A completion's bytes tell its fields.
use Rattle.std.proofs.Common.{◌≡◌, ℕ, ◌*◌, ◌/◌, ◌%◌, ◌^◌, ◌<◌, drop, refl, ap, ◌∙◌, arith, Some}
use Rattle.byteorder.specs.Numbers.{little_number-reads_back}
use Rattle.zone_state.specs.declared.status.StatusType.{StatusType}
use Rattle.zone_state.specs.declared.status.StatusType.TheVariants.{Generic, CommandSpecific, VendorSpecific}
use Rattle.zone_state.specs.Status.{type_number, type_of}
use Rattle.nvme_entry.specs.declared.completion.Completion.{Completion}
use Rattle.nvme_entry.specs.Completion.{completion_bytes, status_dword}
use Rattle.nvme_entry.specs.Dwords.{dword}
use Rattle.nvme_entry.specs.CompletionFields.{CompletionsTell, AreCompletionFields, completion_in}

three_bits : (kind : StatusType) → type_number kind < 2 ^ 3
three_bits Generic = omega arith
three_bits CommandSpecific = omega arith
three_bits VendorSpecific = omega arith

type_told : (kind : StatusType) → type_of (type_number kind) ≡ Some kind
type_told Generic = refl
type_told CommandSpecific = refl
type_told VendorSpecific = refl

-- the completion with the fields that its bytes tell is the one whose bytes they are
pub completions_read_back : (c : Completion) → AreCompletionFields c → completion_in (completion_bytes c) ≡ Some c
completions_read_back c fields =
    let bytes = completion_bytes c in
    let few = three_bits c.status.kind in
    let small : status_dword c.cid c.status < 2 ^ 32 = omega (arith, fields.cid, fields.code, few) in
    let second : dword bytes 2 ≡ c.queue * 2 ^ 16 = little_number-reads_back 4 (c.queue * 2 ^ 16) (drop 12 bytes) (omega (arith, fields.queue)) in
    let third : dword bytes 3 ≡ status_dword c.cid c.status = little_number-reads_back 4 (status_dword c.cid c.status) (drop 16 bytes) (omega (arith, small)) in
    let dw0 : dword bytes 0 ≡ c.dw0 = little_number-reads_back 4 c.dw0 (drop 4 bytes) (omega (arith, fields.dw0)) in
    let dw1 : dword bytes 1 ≡ c.dw1 = little_number-reads_back 4 c.dw1 (drop 8 bytes) (omega (arith, fields.dw1)) in
    let queue : dword bytes 2 / 2 ^ 16 ≡ c.queue = ap (λ (n : ℕ). n / 2 ^ 16) second ∙ omega (arith, fields.queue) in
    let cid : dword bytes 3 % 2 ^ 16 ≡ c.cid = ap (λ (n : ℕ). n % 2 ^ 16) third ∙ omega (arith, fields.cid) in
    let code : dword bytes 3 / 2 ^ 17 % 2 ^ 8 ≡ c.status.code = ap (λ (n : ℕ). n / 2 ^ 17 % 2 ^ 8) third ∙ omega (arith, fields.cid, fields.code) in
    let number : dword bytes 3 / 2 ^ 25 % 2 ^ 3 ≡ type_number c.status.kind =
    ap (λ (n : ℕ). n / 2 ^ 25 % 2 ^ 3) third ∙ omega (arith, fields.cid, fields.code, few) in
    let kind : type_of (dword bytes 3 / 2 ^ 25 % 2 ^ 3) ≡ Some c.status.kind = ap type_of number ∙ type_told c.status.kind in
    rw (kind, dw0, dw1, queue, cid, code) refl

pub completions_tell : CompletionsTell
completions_tell c fields = (refl, completions_read_back c fields)
