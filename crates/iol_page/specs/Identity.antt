-- Who a device is, by its page (IEC 61131-9, B.1.8 and B.1.9).
use Rattle.std.specs.Prelude.{ℕ, ◌+◌, ◌*◌, Bool, true, ◌==◌, ◌&&◌, List, Option, Some, None}
use Rattle.iol_page.specs.Page.{page_octet}
use Rattle.iol_page.specs.declared.identity.Identity.{Identity}

-- VendorID at 0x07 and 0x08, DeviceID at 0x09 to 0x0B, the high octet first
-- PAGE-7
abbrev pub identity_of : List ℕ → Identity
identity_of page = record {
  vendor = 256 * page_octet page 7 + page_octet page 8;
  device = 65536 * page_octet page 9 + 256 * page_octet page 10 + page_octet page 11;
}

abbrev pub same_identity : Identity → Identity → Bool
same_identity a b = (a.vendor == b.vendor) && (a.device == b.device)

-- the page is that of the device that is expected, if one is
-- LINK-11
abbrev pub is_expected : Option Identity → List ℕ → Bool
is_expected None page = true
is_expected (Some expected) page = same_identity expected (identity_of page)
