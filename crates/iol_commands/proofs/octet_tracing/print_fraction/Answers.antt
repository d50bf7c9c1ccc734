-- The clauses of `octet_tracing::print_fraction` that the search can't prove.
use Rattle.std.proofs.Common.{◌-◌, ◌^◌, refl}
use Rattle.std.specs.Fmt.{decimal, format_spec}
use Rattle.std.proofs.Padding.{padded_integral_zeros}
use Rattle.iol_commands.proofs.octet_tracing.print_fraction.Goals as goal

pub returns : goal.returns
returns g c =
    rw (
      c.laid_out.ensures,
      padded_integral_zeros (format_spec 32 0 4 9 (2 ^ 64 - 1))
          (decimal c.args.nanoseconds) refl refl,
    ) at c.write.ensures.bytes
