use Rattle.device_laws.proofs.TenantsShare as shared
use Rattle.device_laws.proofs.laws.tenants_share.Goals as goal

pub returns : goal.returns
returns c = shared.tenants_share
