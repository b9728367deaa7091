-- What a loop does with a target before a device, in the words of the device.
use Rattle.std.specs.Prelude.{ℕ, ◌≡◌, List, map, Some}
use Rattle.durable_device.specs.Kept.{MayBeLeft, StandsFor}
use Rattle.tcp_target.specs.Queues.{free_number, place_at}
use Rattle.tcp_target.specs.Events.{count_of}
use Rattle.tcp_device.specs.Deeds as device
use Rattle.tcp_device.specs.State.{ServedState}
use Rattle.tcp_loop.specs.Deeds.{Closed, Deed, Meaning, Opened, Received, Resumed, Sent, Served, Ticked, Turned}

-- ---- deeds

-- a deed of a loop, as one of a target before a device
abbrev pub deed_of : Deed → device.Deed
deed_of (Opened number) = device.Opened
deed_of (Received number piece count) = device.Received number piece
deed_of (Sent number count) = device.Sent number count
deed_of (Closed number) = device.Closed number
deed_of (Ticked milliseconds) = device.Ticked milliseconds
deed_of (Served number) = device.Served number
deed_of Turned = device.Turned
deed_of (Resumed run) = device.Resumed run

abbrev pub deeds_of : List Deed → List device.Deed
deeds_of deeds = map deed_of deeds

-- a loop also says which number a connection gets, which is the one that is free, and how many bytes are taken of those that came
abbrev pub IsSaid : Deed → ServedState → Type 0
IsSaid (Opened number) s = free_number s.target.queues ≡ Some number
IsSaid (Received number piece count) s = count ≡ count_of number piece s.target
IsSaid (Sent number count) s = Unit {0}
IsSaid (Closed number) s = Unit {0}
IsSaid (Ticked milliseconds) s = Unit {0}
IsSaid (Served number) s = Unit {0}
IsSaid Turned s = Unit {0}
IsSaid (Resumed run) s = Unit {0}

abbrev pub does : Deed → ServedState → ServedState → Type 0
does deed old new = IsSaid deed old × device.Does (deed_of deed) old new

-- ---- what is said of a target

-- what is to be sent on a connection
abbrev pub unsent_on : ℕ → ServedState → List ℕ
unsent_on number s = (place_at number s.target.queues).unsent

-- where its device is kept in a file, that stands for the device,
abbrev pub kept_in_file : Meaning ServedState
kept_in_file = record {
  does = does;
  to_send = unsent_on;
  stands_for = λ c s. StandsFor c s.device;
  may_be_left = MayBeLeft;
}

-- and where it is in memory alone, nothing is asked of the file to which it is saved at the end
abbrev pub in_memory : Meaning ServedState
in_memory = record {
  does = does;
  to_send = unsent_on;
  stands_for = λ c s. Unit {0};
  may_be_left = MayBeLeft;
}
