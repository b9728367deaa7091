-- The numbers that cross to C, as `c/pifnjarl_device.h` and `c/pifnjarl_handle.h` have them.
use Rattle.std.specs.Prelude.{ℕ, ◌≡◌}
use Rattle.zone_resources.specs.declared.admission.Limits.{Limits}
use Rattle.image_text.specs.Fault.{load_number}
use Rattle.image_text.specs.declared.fault.HeaderFault.{HeaderFault}
use Rattle.image_text.specs.declared.fault.ZoneRowFault.{ZoneRowFault}
use Rattle.image_text.specs.declared.fault.LoadFault.TheVariants as load
use Rattle.device_library.specs.declared.numbers.TheConstants.{SUBMIT, TURN, FAULT_READ_ONLY, FAULT_OFFLINE}
use Rattle.device_library.specs.declared.numbers.TheConstants.{DONE, COMPLETION, PENDING, IDLE, FAULT_TAKEN, FAULT_REFUSED}
use Rattle.device_library.specs.declared.numbers.TheConstants.{NO_DEVICE, WRONG_SIZE, UNKNOWN_KIND, NUMBER_TOO_LARGE, NO_RUN, DAMAGED, NO_DOOR, OTHER_VERSION}

-- each constant is the number of the header (profile)
pub record NumbersAreTheHeaders : Type 0 where
  -- kinds of events
  pub submit : SUBMIT ≡ 1
  pub turn : TURN ≡ 2
  pub fault_read_only : FAULT_READ_ONLY ≡ 3
  pub fault_offline : FAULT_OFFLINE ≡ 4
  -- what a call came to: replies
  pub done : DONE ≡ 0
  pub completion : COMPLETION ≡ 1
  pub pending : PENDING ≡ 2
  pub idle : IDLE ≡ 3
  pub fault_taken : FAULT_TAKEN ≡ 4
  pub fault_refused : FAULT_REFUSED ≡ 5
  -- the faults of an image, and want of memory
  pub image_truncated : load_number load.Truncated ≡ 10
  pub image_magic : load_number load.Magic ≡ 11
  pub image_header : (fault : HeaderFault) → load_number (load.Header fault) ≡ 12
  pub image_zone_row : (zone : ℕ) (fault : ZoneRowFault) → load_number (load.ZoneRow zone fault) ≡ 13
  pub image_limits : (opened active : ℕ) (limits : Limits) → load_number (load.Limits opened active limits) ≡ 14
  pub image_trailing : load_number load.Trailing ≡ 15
  pub want_of_memory : load_number load.Memory ≡ 17
  pub image_total : (told counted : ℕ) → load_number (load.Total told counted) ≡ 18
  -- why else nothing was done
  pub no_device : NO_DEVICE ≡ 32
  pub wrong_size : WRONG_SIZE ≡ 33
  pub unknown_kind : UNKNOWN_KIND ≡ 34
  pub number_too_large : NUMBER_TOO_LARGE ≡ 35
  -- in place of a run's number, which is at most 255
  pub no_run : NO_RUN ≡ 256
  -- why nothing is behind a handle, beside those
  pub damaged : DAMAGED ≡ 40
  pub no_door : NO_DOOR ≡ 41
  pub other_version : OTHER_VERSION ≡ 42
