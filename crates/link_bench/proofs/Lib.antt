pub mod OneQuotaFits
