-- What an export says of the memory in which C keeps a handle.
use Rattle.std.specs.Borrow.{full_share, Fml}
use Rattle.std.specs.Ptr.{lies_at}
use denote.RawPtr.{Ptr}
use base.Fml.{fex, fsep, ftrue}
use Rattle.device_library.specs.contracts.handle.Handle.{the_row}
use Rattle.device_library.specs.declared.handle.Handle.{Handle}

-- this handle lies there
abbrev pub lies : Ptr → Handle → Fml
lies at handle = lies_at the_row full_share at handle

-- and this holds of it
abbrev pub lies_holding : Ptr → Handle → (Handle → Type 0) → Fml
lies_holding at handle Holds = fsep (fex (Holds handle) (λ _. ftrue)) (lies at handle)

-- a handle lies there of which this holds
abbrev pub lies_some : Ptr → (Handle → Type 0) → Fml
lies_some at Holds = fex Handle (λ handle. lies_holding at handle Holds)
