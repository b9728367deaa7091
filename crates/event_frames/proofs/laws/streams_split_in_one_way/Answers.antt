use Rattle.event_frames.proofs.Streams.{streams_split_in_one_way}
use Rattle.event_frames.proofs.laws.streams_split_in_one_way.Goals as goal

pub returns : goal.returns
returns c = streams_split_in_one_way
