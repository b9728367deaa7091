-- Requests that have begun, of which not all has come (profile).
use Rattle.std.specs.Prelude.{◌≡◌, ◌<◌, length, None}
use Rattle.device_serve.specs.FrameStream.{FrameReader}
use Rattle.device_serve.specs.declared.lines.LineCodec.{LineCodec}

-- some of the next frame has come, and not all; or a byte was wrong, and no more is read
abbrev pub IsWithin : {K : Type 0} → FrameReader K → Type 0
IsWithin codec = codec.session.fault ≡ None → 0 < length codec.session.pending

-- a line has begun that has no end yet
abbrev pub IsWithinLine : LineCodec → Type 0
IsWithinLine codec = 0 < length codec.unended.items
