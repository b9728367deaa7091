-- The data structures and the log pages are their fields in order, and as long as is said.
use Rattle.std.proofs.Common.{ℕ, Bool, true, false, arith, ◌==◌, ◌&&◌}
use Rattle.tcp_admin.specs.declared.identify.Structure.{Structure}
use Rattle.tcp_admin.specs.declared.identify.Structure.TheVariants.{Namespace, Controller, NamespaceList, NamespaceListOf, NamespaceDescriptors, ZonedNamespace, NvmController, ZonedController, CommandSets}
use Rattle.tcp_admin.specs.declared.logs.LogPage.{LogPage}
use Rattle.tcp_admin.specs.declared.logs.LogPage.TheVariants.{ErrorInformation, SmartHealth, FirmwareSlot, CommandEffects}
use Rattle.tcp_admin.specs.declared.subsystem.NamespaceFormat.{NamespaceFormat}
use Rattle.tcp_admin.specs.declared.subsystem.Subsystem.{Subsystem}
use Rattle.tcp_admin.specs.Identify.{identity_fields, list_fields, structure_fields, zoned}
use Rattle.tcp_admin.specs.Laws.{IsSubsystem, LogsAreWhole, LogsTell, StructuresAreWhole, StructuresTell}
use Rattle.tcp_admin.specs.Logs.{effects_fields, log_fields, page_bytes}
use Rattle.tcp_admin.proofs.Tables.{AreApart, page_in_order, whole}

-- ---- the data structures of Identify

list_apart : (lists : Bool) → AreApart 0 (list_fields lists) 4096
list_apart true = (omega arith, omega arith)
list_apart false = omega arith

identity_apart : (id : ℕ) (s : Subsystem) → IsSubsystem s → AreApart 0 (identity_fields id s) 4096
identity_apart id s is = (
  omega arith,
  (
    omega (arith, is.serial_number),
    (
      omega (arith, is.model),
      (
        omega (arith, is.firmware),
        (
          omega arith,
          (
            omega arith,
            (
              omega arith,
              (
                omega arith,
                (
                  omega arith,
                  (
                    omega arith,
                    (
                      omega arith,
                      (
                        omega arith,
                        (
                          omega arith,
                          (
                            omega arith,
                            (
                              omega arith,
                              (
                                omega arith,
                                (
                                  omega arith,
                                  (
                                    omega arith,
                                    (
                                      omega arith,
                                      (
                                        omega (arith, is.name),
                                        (
                                          omega arith,
                                          (
                                            omega arith,
                                            omega arith,
                                          ),
                                        ),
                                      ),
                                    ),
                                  ),
                                ),
                              ),
                            ),
                          ),
                        ),
                      ),
                    ),
                  ),
                ),
              ),
            ),
          ),
        ),
      ),
    ),
  ),
)

structure_apart : (structure : Structure) (nsid id : ℕ) (s : Subsystem) (n : NamespaceFormat) → IsSubsystem s
    → AreApart 0 (structure_fields structure nsid id s n) 4096
structure_apart Namespace nsid id s n is =
    (omega arith, (omega arith, (omega arith, (omega arith, (omega arith, (omega (arith, is.nguid), omega arith))))))
structure_apart Controller nsid id s n is = identity_apart id s is
structure_apart NamespaceList nsid id s n is = list_apart (nsid == 0)
structure_apart (NamespaceListOf csi) nsid id s n is = list_apart (nsid == 0 && csi == zoned)
structure_apart NamespaceDescriptors nsid id s n is = (
  omega arith,
  (
    omega arith,
    (
      omega arith,
      (
        omega (arith, is.nguid),
        (
          omega arith,
          (
            omega arith,
            omega arith,
          ),
        ),
      ),
    ),
  ),
)
structure_apart ZonedNamespace nsid id s n is =
    (omega arith, (omega arith, (omega arith, omega arith)))
structure_apart NvmController nsid id s n is = omega arith
structure_apart ZonedController nsid id s n is = (omega arith, omega arith)
structure_apart CommandSets nsid id s n is = (omega arith, omega arith)

pub structures_are_whole : StructuresAreWhole
structures_are_whole structure nsid id s n is =
    whole 4096 (structure_fields structure nsid id s n) (structure_apart structure nsid id s n is)

pub structures_tell : StructuresTell
structures_tell structure nsid id s n is =
    page_in_order 4096 (structure_fields structure nsid id s n) (structure_apart structure nsid id s n is)

-- ---- log pages

effects_apart : (is_zoned : Bool) → AreApart 0 (effects_fields is_zoned) 4096
effects_apart true = (
  omega arith,
  (
    omega arith,
    (
      omega arith,
      (
        omega arith,
        (
          omega arith,
          (
            omega arith,
            (
              omega arith,
              (
                omega arith,
                (
                  omega arith,
                  (
                    omega arith,
                    (
                      omega arith,
                      (
                        omega arith,
                        (
                          omega arith,
                          (
                            omega arith,
                            (omega arith, omega arith),
                          ),
                        ),
                      ),
                    ),
                  ),
                ),
              ),
            ),
          ),
        ),
      ),
    ),
  ),
)
effects_apart false = (
  omega arith,
  (
    omega arith,
    (
      omega arith,
      (
        omega arith,
        (
          omega arith,
          (
            omega arith,
            (
              omega arith,
              omega arith,
            ),
          ),
        ),
      ),
    ),
  ),
)

log_apart : (log : LogPage) (csi : ℕ) (s : Subsystem) → IsSubsystem s → AreApart 0 (log_fields log csi s) (page_bytes log)
log_apart ErrorInformation csi s is = omega arith
log_apart SmartHealth csi s is = (omega arith, omega arith)
log_apart FirmwareSlot csi s is = (omega arith, (omega arith, omega (arith, is.firmware)))
log_apart CommandEffects csi s is = effects_apart (csi == zoned)

pub logs_are_whole : LogsAreWhole
logs_are_whole log csi s is = whole (page_bytes log) (log_fields log csi s) (log_apart log csi s is)

pub logs_tell : LogsTell
logs_tell log csi s is = page_in_order (page_bytes log) (log_fields log csi s) (log_apart log csi s is)
