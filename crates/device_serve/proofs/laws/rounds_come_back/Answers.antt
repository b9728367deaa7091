use Rattle.device_serve.proofs.laws.rounds_come_back.Goals as goal

pub returns : goal.returns
returns g c pieces old left opened after is = is.no_other after.mid.state after.stands
