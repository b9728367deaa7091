-- A host is told what the device's completion spells.
use Rattle.std.proofs.Common.{◌≡◌, ℕ, ◌/◌, ◌%◌, ◌^◌, List, Option, None, Some, ap, sym}
use Rattle.std.specs.Option.{option_map}
use Rattle.zone_state.specs.Status.{type_of}
use Rattle.zone_state.specs.declared.status.StatusType.{StatusType}
use Rattle.nvme_entry.specs.Completion.{completion_bytes}
use Rattle.nvme_entry.specs.CompletionFields.{CompletionsTell, completion_in}
use Rattle.nvme_entry.specs.Dwords.{dword}
use Rattle.nvme_entry.specs.declared.completion.Completion.{Completion}
use Rattle.tcp_device.specs.Outcome.{OutcomesAreTold, outcome_in, outcome_of, status_by}

module _ (bytes : List ℕ) (c : Completion) where
  abbrev read : StatusType → Completion
  read kind = record {
    dw0 = dword bytes 0;
    dw1 = dword bytes 1;
    queue = dword bytes 2 / 2 ^ 16;
    cid = dword bytes 3 % 2 ^ 16;
    status = record { kind = kind; code = dword bytes 3 / 2 ^ 17 % 2 ^ 8 };
  }

  of_type : (t : Option StatusType) → option_map read t ≡ Some c
      → record { status = status_by t (dword bytes 3 / 2 ^ 17 % 2 ^ 8); dw0 = dword bytes 0; dw1 = dword bytes 1 } ≡ outcome_of c
  of_type None is = absurd (cc)
  of_type (Some kind) is = let same : read kind ≡ c = cc in ap outcome_of same

-- what is told of bytes that spell a completion is its outcome
pub outcome_told : (bytes : List ℕ) (c : Completion) → completion_in bytes ≡ Some c → outcome_of c ≡ outcome_in bytes
outcome_told bytes c is = sym (of_type bytes c (type_of (dword bytes 3 / 2 ^ 25 % 2 ^ 3)) is)

pub outcomes_are_told : CompletionsTell → OutcomesAreTold
outcomes_are_told tell c fields =
    let bytes = completion_bytes c in of_type bytes c (type_of (dword bytes 3 / 2 ^ 25 % 2 ^ 3)) (tell c fields).1
