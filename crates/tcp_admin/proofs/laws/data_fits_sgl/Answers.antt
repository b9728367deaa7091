use Rattle.tcp_admin.proofs.Fitting.{data_fits_sgl}
use Rattle.tcp_admin.proofs.laws.data_fits_sgl.Goals as goal

pub returns : goal.returns
returns c = data_fits_sgl
