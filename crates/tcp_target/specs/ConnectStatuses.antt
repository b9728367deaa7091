-- The numbers of the statuses of a Connect.
use Rattle.std.specs.Prelude.{◌≡◌}
use Rattle.zone_state.specs.Numbers.{type_and_code}
use Rattle.tcp_target.specs.declared.connect_checks.TheConstants.{CONNECT_CONTROLLER_BUSY, CONNECT_INCOMPATIBLE_FORMAT, CONNECT_INVALID_PARAMETERS, DATA_SGL_LENGTH_INVALID}

-- each has the standards' type and code (NVMe Base 2.0, 3.3.3.2)
pub record StatusesAreTheStandards : Type 0 where
  pub data_sgl_length_invalid : type_and_code DATA_SGL_LENGTH_INVALID ≡ (0x0, 0x0F)
  pub connect_incompatible_format : type_and_code CONNECT_INCOMPATIBLE_FORMAT ≡ (0x1, 0x80)
  pub connect_controller_busy : type_and_code CONNECT_CONTROLLER_BUSY ≡ (0x1, 0x81)
  pub connect_invalid_parameters : type_and_code CONNECT_INVALID_PARAMETERS ≡ (0x1, 0x82)
